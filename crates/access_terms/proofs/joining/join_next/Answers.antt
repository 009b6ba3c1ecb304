use Rattle.access_terms.proofs.Common.{IsSymBlock, each-at, sym_block-later, sym_blocks-later}
use Rattle.access_terms.proofs.Joins.{above-grown, joined_both, joined_first, joined_second}
use Rattle.access_terms.proofs.joining.join_next.Goals as goal

pub push_where-requires-in-Second-clause-block : goal.push_where-requires-in-Second-clause-block
push_where-requires-in-Second-clause-block c =
    sym_block-later c.args.terms.now c.negation.new.terms c.negation.ensures.kept c.index-b-second.result
    (each-at (IsSymBlock c.args.terms.now) c.args.b.now c.args.joined.second c.index-b-second.result c.requires.b c.in-Second.ensures c.index-b-second.is)

pub push_where-requires-in-Second-clause-picked : goal.push_where-requires-in-Second-clause-picked
push_where-requires-in-Second-clause-picked c = sym_blocks-later c.args.terms.now c.negation.new.terms c.negation.ensures.kept c.args.picked.now c.requires.picked

pub push_either-requires-clause-alike : goal.push_either-requires-clause-alike
push_either-requires-clause-alike c = c.in-Both.ensures.2 c.index-a-first-in-Both.result c.index-b-second-in-Both.result c.index-a-first-in-Both.is c.index-b-second-in-Both.is

pub returns-in_ok-push_where-in-First-clause-numbers : goal.returns-in_ok-push_where-in-First-clause-numbers
returns-in_ok-push_where-in-First-clause-numbers c = λ most ha hb h.
    above-grown most c.args.a.now c.args.picked.now c.push_where.new.picked c.args.joined.first c.index-a-first.result ha c.in-First.ensures c.index-a-first.is c.in_ok-push_where-in-First.ensures.grown h

pub returns-in_ok-push_where-in-Second-clause-numbers : goal.returns-in_ok-push_where-in-Second-clause-numbers
returns-in_ok-push_where-in-Second-clause-numbers c = λ most ha hb h.
    above-grown most c.args.b.now c.args.picked.now c.push_where-in-Second.new.picked c.args.joined.second c.index-b-second.result hb c.in-Second.ensures c.index-b-second.is c.in_ok-push_where-in-Second.ensures.grown h

pub returns-in_ok-push_either-in-Both-clause-numbers : goal.returns-in_ok-push_either-in-Both-clause-numbers
returns-in_ok-push_either-in-Both-clause-numbers c = λ most ha hb h.
    above-grown most c.args.a.now c.args.picked.now c.push_either.new.picked c.args.joined.first c.index-a-first-in-Both.result ha c.in-Both.ensures.0 c.index-a-first-in-Both.is c.in_ok-push_either-in-Both.ensures.grown h

pub returns-in_ok-push_where-in-First-clause-stands : goal.returns-in_ok-push_where-in-First-clause-stands
returns-in_ok-push_where-in-First-clause-stands c = λ r so.
    joined_first r c.args.terms.now c.push_where.new.terms c.args.c c.args.a.now c.args.b.now c.args.picked.now c.push_where.new.picked c.args.joined.first c.args.joined.second c.index-a-first.result
    c.in-First.ensures c.index-a-first.is (c.in_ok-push_where-in-First.ensures.stands r) so

pub returns-in_ok-push_where-in-Second-clause-stands : goal.returns-in_ok-push_where-in-Second-clause-stands
returns-in_ok-push_where-in-Second-clause-stands c = λ r so.
    joined_second r c.args.terms.now c.negation.new.terms c.push_where-in-Second.new.terms c.args.c c.in_ok-not_c-in-Second.not_c c.args.a.now c.args.b.now c.args.picked.now c.push_where-in-Second.new.picked c.args.joined.first c.args.joined.second
    c.index-b-second.result c.negation.ensures.kept c.requires.picked (each-at (IsSymBlock c.args.terms.now) c.args.b.now c.args.joined.second c.index-b-second.result c.requires.b c.in-Second.ensures c.index-b-second.is)
    c.in-Second.ensures c.index-b-second.is (c.in_ok-not_c-in-Second.ensures.made.says r.v) (c.in_ok-push_where-in-Second.ensures.stands r) so

pub returns-in_ok-push_either-in-Both-clause-stands : goal.returns-in_ok-push_either-in-Both-clause-stands
returns-in_ok-push_either-in-Both-clause-stands c = λ r so.
    joined_both r c.args.terms.now c.push_either.new.terms c.args.c c.args.a.now c.args.b.now c.args.picked.now c.push_either.new.picked c.args.joined.first c.args.joined.second
    c.index-a-first-in-Both.result c.index-b-second-in-Both.result c.in-Both.ensures.0 c.index-a-first-in-Both.is c.in-Both.ensures.1 c.index-b-second-in-Both.is (c.in_ok-push_either-in-Both.ensures.stands r) so

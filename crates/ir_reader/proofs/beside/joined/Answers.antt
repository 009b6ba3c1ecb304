use Rattle.ir_reader.proofs.Common.{◌≡◌, ◌∙◌, ◌++◌, true, ℕ, refl, subst, sym, ap}
use Rattle.std.specs.Prelude.{IfSome, is_ok, is_some}
use Rattle.ir_reader.specs.declared.beside.Span.{Span}
use Rattle.ir_reader.specs.Beside.{IsSpan}
use Rattle.ir_reader.proofs.Spans.{span-join}
use Rattle.ir_reader.proofs.beside.joined.Goals as goal

pub returns : goal.returns
returns c text from ours theirs =
    let others : Span = c.in_ok-others.others in
    let back : IsSpan text c.args.back.from others = subst (λ o. IfSome o (IsSpan text c.args.back.from)) c.in_ok-others.was theirs in
    let went : is_ok c.append.result ≡ true = sym c.ok.ensures.variant ∙ ap is_some c.in_ok-ok.was in
    let items : c.append.new.self.items ≡ c.args.front.entries.items ++ others.entries.items = rw went at c.append.ensures.items in
    let whole : Span = record { entries = c.append.new.self; edges = c.joined_edges.result; after = others.after } in
    span-join text from c.args.front others whole items refl (c.do_meet.ensures.meets c.if-not-do_meet.false) c.joined_edges.ensures ours (subst (λ (k : ℕ). IsSpan text k others) (sym c.if-front-back.false) back)

use Rattle.encoder.proofs.Common.{◌≡◌, ◌∙◌, refl, ap, not, sym, [], length, Each, frames_of, IsBlockTerms, IsByteTerms, each-weaker, keeps_trans, args-later, args_at-later, term-later, bit-later, sym_values-later, is_term-later, sizes-later, block_terms_each-later, given_blocks_at-later, given_blocks-later, run_memory-later, first_matches, only_frames, only_given}
use Rattle.encoder.proofs.beginning.begin.Goals as goal

pub give_args-requires-clause-args : goal.give_args-requires-clause-args
give_args-requires-clause-args c = rw (c.as_slice.ensures, c.as_slice-args.ensures) (args-later c.args.terms.now c.poison_registers.new.terms c.poison_registers.ensures.kept c.args.f.now.parameters c.args.input.now.args c.requires.args)

pub breaks_no_undef-requires : goal.breaks_no_undef-requires
breaks_no_undef-requires c = rw (c.as_slice-2.ensures, c.as_slice-args.ensures)
    (args-later c.args.terms.now c.give_args.new.terms (keeps_trans c.args.terms.now c.poison_registers.new.terms c.give_args.new.terms c.poison_registers.ensures.kept c.give_args.ensures.kept) c.args.f.now.parameters c.args.input.now.args c.requires.args)

pub given_memory-requires-clause-sizes : goal.given_memory-requires-clause-sizes
given_memory-requires-clause-sizes c =
    let old = c.args.terms.now in
    let a = c.poison_registers.new.terms in
    let b = c.give_args.new.terms in
    let x = c.breaks_no_undef.new.terms in
    let y = c.negation.new.terms in
    let kab = keeps_trans old a b c.poison_registers.ensures.kept c.give_args.ensures.kept in
    let k = keeps_trans old x y (keeps_trans old b x kab c.breaks_no_undef.ensures.kept) c.negation.ensures.kept in
    sizes-later old y k c.args.input.now.sizes c.requires.sizes

pub given_memory-requires-clause-places : goal.given_memory-requires-clause-places
given_memory-requires-clause-places c =
    let old = c.args.terms.now in
    let a = c.poison_registers.new.terms in
    let b = c.give_args.new.terms in
    let x = c.breaks_no_undef.new.terms in
    let y = c.negation.new.terms in
    let kab = keeps_trans old a b c.poison_registers.ensures.kept c.give_args.ensures.kept in
    let k = keeps_trans old x y (keeps_trans old b x kab c.breaks_no_undef.ensures.kept) c.negation.ensures.kept in
    block_terms_each-later old y k c.args.layout.now.bytes c.args.input.now.places c.requires.places

pub returns-clause-undefined : goal.returns-clause-undefined
returns-clause-undefined c =
    let x = c.breaks_no_undef.new.terms in
    let y = c.negation.new.terms in
    let z = c.given_memory.new.terms in
    let n = c.number.new.terms in
    let d = c.truth.new.terms in
    let k = keeps_trans x z d (keeps_trans x y z c.negation.ensures.kept c.given_memory.ensures.kept) (keeps_trans z n d c.number.ensures.kept c.truth.ensures.kept) in
    is_term-later x d k 1 c.in_ok-undefined.undefined c.in_ok-undefined.ensures.made

pub returns-clause-breaks : goal.returns-clause-breaks
returns-clause-breaks c = λ r named.
    let old = c.args.terms.now in
    let b = c.give_args.new.terms in
    let x = c.breaks_no_undef.new.terms in
    let y = c.negation.new.terms in
    let z = c.given_memory.new.terms in
    let n = c.number.new.terms in
    let d = c.truth.new.terms in
    let kab = keeps_trans old c.poison_registers.new.terms b c.poison_registers.ensures.kept c.give_args.ensures.kept in
    let k = keeps_trans x z d (keeps_trans x y z c.negation.ensures.kept c.given_memory.ensures.kept) (keeps_trans z n d c.number.ensures.kept c.truth.ensures.kept) in
    bit-later x d k r.v c.in_ok-undefined.undefined c.in_ok-undefined.ensures.made.within
    ∙ (rw (c.as_slice-2.ensures, c.as_slice-args.ensures) at (c.in_ok-undefined.ensures.stands r named)
    ∙ rw (args_at-later old b kab r c.args.f.now.parameters c.args.input.now.args c.requires.args) refl)

pub returns-clause-alive : goal.returns-clause-alive
returns-clause-alive c = λ r.
    let x = c.breaks_no_undef.new.terms in
    let y = c.negation.new.terms in
    let z = c.given_memory.new.terms in
    let n = c.number.new.terms in
    let d = c.truth.new.terms in
    let ky = keeps_trans y z d c.given_memory.ensures.kept (keeps_trans z n d c.number.ensures.kept c.truth.ensures.kept) in
    let kx = keeps_trans x y d c.negation.ensures.kept ky in
    bit-later y d ky r.v c.in_ok-alive.alive c.in_ok-alive.ensures.made.within
    ∙ (c.in_ok-alive.ensures.made.says r.v ∙ ap not (sym (bit-later x d kx r.v c.in_ok-undefined.undefined c.in_ok-undefined.ensures.made.within)))

pub returns-clause-matches : goal.returns-clause-matches
returns-clause-matches c = λ g given.
    let old = c.args.terms.now in
    let a = c.poison_registers.new.terms in
    let b = c.give_args.new.terms in
    let x = c.breaks_no_undef.new.terms in
    let y = c.negation.new.terms in
    let z = c.given_memory.new.terms in
    let n = c.number.new.terms in
    let d = c.truth.new.terms in
    let kab = keeps_trans old a b c.poison_registers.ensures.kept c.give_args.ensures.kept in
    let kby = keeps_trans b x y c.breaks_no_undef.ensures.kept c.negation.ensures.kept in
    let input = c.args.input.now in
    let memory = c.in_ok-memory.ensures in
    first_matches old a b y z d c.args.f.now input c.in_ok-registers.registers
    (record { alive = c.in_ok-alive.alive; path = c.from_vec.result; registers = c.give_args.new.registers; memory = c.in_ok-memory.memory; tally = record { read = c.in_ok-read.read; fits = c.in_ok-fits.fits }; words_bound = 0 })
    c.poison_registers.ensures.kept c.give_args.ensures.kept kby c.given_memory.ensures.kept (keeps_trans z n d c.number.ensures.kept c.truth.ensures.kept)
    c.requires.args c.in_ok-give_args.ensures.made (only_given z c.in_ok-memory.memory c.args.layout.now memory.given memory.count)
    (λ r. rw c.len.ensures at (c.in_ok-registers.ensures.stands r)) (λ r named. rw (c.as_slice.ensures, c.as_slice-args.ensures) at (c.in_ok-give_args.ensures.stands r named))
    memory.stands
    (λ r. given_blocks_at-later old y (keeps_trans old b y kab kby) r 1 input.sizes input.places c.requires.sizes (each-weaker (IsBlockTerms c.args.layout.now.bytes old) (Each (IsByteTerms old)) input.places (λ bytes h. h.are) c.requires.places))
    (memory.count ∙ sym c.requires.size_count)
    (λ v. term-later n d c.truth.ensures.kept v c.in_ok-read.read c.in_ok-read.ensures.made.within ∙ c.in_ok-read.ensures.made.says v) (λ v. c.in_ok-fits.ensures.made.says v) g (given ∙ sym c.requires.size_count)

pub returns-clause-state : goal.returns-clause-state
returns-clause-state c =
    let b = c.give_args.new.terms in
    let x = c.breaks_no_undef.new.terms in
    let y = c.negation.new.terms in
    let z = c.given_memory.new.terms in
    let n = c.number.new.terms in
    let d = c.truth.new.terms in
    let kby = keeps_trans b x y c.breaks_no_undef.ensures.kept c.negation.ensures.kept in
    let kzd = keeps_trans z n d c.number.ensures.kept c.truth.ensures.kept in
    let kyd = keeps_trans y z d c.given_memory.ensures.kept kzd in
    let alive = c.in_ok-alive.ensures.made in
    let read = c.in_ok-read.ensures.made in
    let fits = c.in_ok-fits.ensures.made in
    let memory = c.in_ok-memory.ensures in
    record {
      alive = is_term-later y d kyd 1 c.in_ok-alive.alive (record { within = alive.within; wide = alive.wide });
      path = (let none : c.from_vec.result ≡ [] = c.from_vec.ensures ∙ c.new.ensures.items in record { tests = rw none tt; hold = λ v held. rw none tt });
      registers = sym_values-later b d (keeps_trans b y d kby kyd) c.give_args.new.registers c.in_ok-give_args.ensures.made;
      memory = run_memory-later z d kzd c.in_ok-memory.memory (only_given z c.in_ok-memory.memory c.args.layout.now memory.given memory.count);
      tally = record {
        read = is_term-later n d c.truth.ensures.kept 64 c.in_ok-read.read (record { within = read.within; wide = read.wide });
        fits = record { within = fits.within; wide = fits.wide };
      };
    }

pub returns-clause-shape : goal.returns-clause-shape
returns-clause-shape c =
    let memory = c.in_ok-memory.ensures in
    let names : length c.give_args.new.registers ≡ length c.args.f.now.names = c.in_ok-give_args.ensures.count ∙ (c.in_ok-registers.ensures.count ∙ c.len.ensures) in
    let frames = only_frames c.given_memory.new.terms c.in_ok-memory.memory c.args.layout.now memory.given memory.count in
    λ i. record { names = names i; frames = frames i }

pub returns-clause-given : goal.returns-clause-given
returns-clause-given c =
    let z = c.given_memory.new.terms in
    let n = c.number.new.terms in
    let d = c.truth.new.terms in
    given_blocks-later z d (keeps_trans z n d c.number.ensures.kept c.truth.ensures.kept) (frames_of c.args.layout.now) c.in_ok-memory.memory.blocks c.in_ok-memory.ensures.given

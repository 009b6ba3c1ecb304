-- The source's tapes in order, up to the first that covers a point.
use Rattle.slow_judge.proofs.Common.{◌≡◌, ℕ, ◌^◌, ◌<◌, inl, inr, List, length, replicate, true, false, sym, ap, ◌∙◌, arith, cases_eq, Bounds, Point, RunPair, WordsFit, number_of, IsNextWords, IsLastWords, run_of, need_of, widest_choice, plain_form, covers, IsLeastCover, HasNoCover, number_of-same, number_of-below, WordsFit-length, WordsFit-digits, plain_covers, widest_small, widen}
use Rattle.points.proofs.Words as words
use Rattle.points.proofs.Plain.{tapes_have_plain_forms}

-- the search has come to this tape: none before it covers the point
pub record IsTapeReached (pair : RunPair) (bounds : Bounds) (p : Point) (tape : List ℕ) : Type 0 where
  pub fits : WordsFit (widest_choice pair.source) (need_of bounds.turns pair.source) tape
  pub before : (other : List ℕ) → WordsFit (widest_choice pair.source) (need_of bounds.turns pair.source) other → number_of other < number_of tape → covers pair bounds p other ≡ false

pub tape_reached_first : (pair : RunPair) (bounds : Bounds) (p : Point) (tape : List ℕ) → tape ≡ replicate (need_of bounds.turns pair.source) 0 → IsTapeReached pair bounds p tape
tape_reached_first pair bounds p tape e = record {
  fits = rw e (words.zeros_fit (widest_choice pair.source) (need_of bounds.turns pair.source));
  before = λ other fits less. absurd (let zero_number = ap number_of e ∙ words.number_of-zeros (need_of bounds.turns pair.source) in omega (arith, less, zero_number));
}

same_tape : (pair : RunPair) (bounds : Bounds) (p : Point) (tape other : List ℕ) → WordsFit (widest_choice pair.source) (need_of bounds.turns pair.source) tape → WordsFit (widest_choice pair.source) (need_of bounds.turns pair.source) other → covers pair bounds p tape ≡ false → number_of other ≡ number_of tape → covers pair bounds p other ≡ false
same_tape pair bounds p tape other fits fits' fails e =
    let need = need_of bounds.turns pair.source in
    let width = widest_choice pair.source in
    let same = number_of-same need other tape (WordsFit-digits width need other (widest_small pair.source) fits') (WordsFit-digits width need tape (widest_small pair.source) fits) e in
    ap (covers pair bounds p) same ∙ fails

pub tape_reached_next : (pair : RunPair) (bounds : Bounds) (p : Point) (tape new : List ℕ) → IsTapeReached pair bounds p tape → covers pair bounds p tape ≡ false → IsNextWords (widest_choice pair.source) tape new → IsTapeReached pair bounds p new
tape_reached_next pair bounds p tape new reached fails next =
    let len : length tape ≡ need_of bounds.turns pair.source = WordsFit-length (widest_choice pair.source) (need_of bounds.turns pair.source) tape reached.fits in
    record {
      fits = rw len at next.fits;
      before = λ other fits less.
          let at_most = next.no_gap other (rw len fits) less in
          elim (cases_eq (number_of other) (number_of tape)) as (λ _. covers pair bounds p other ≡ false) [
            | inl same ↦ same_tape pair bounds p tape other reached.fits fits fails same
            | inr apart ↦ reached.before other fits (omega (arith, at_most, apart))
          ];
    }

none_of_width : (pair : RunPair) (bounds : Bounds) (p : Point) (tape : List ℕ) → IsTapeReached pair bounds p tape → covers pair bounds p tape ≡ false → IsLastWords (widest_choice pair.source) tape → (other : List ℕ) → WordsFit (widest_choice pair.source) (need_of bounds.turns pair.source) other → covers pair bounds p other ≡ false
none_of_width pair bounds p tape reached fails last other fits =
    let len : length tape ≡ need_of bounds.turns pair.source = WordsFit-length (widest_choice pair.source) (need_of bounds.turns pair.source) tape reached.fits in
    let at_most = last other (rw len fits) in
    elim (cases_eq (number_of other) (number_of tape)) as (λ _. covers pair bounds p other ≡ false) [
      | inl same ↦ same_tape pair bounds p tape other reached.fits fits fails same
      | inr apart ↦ reached.before other fits (omega (arith, at_most, apart))
    ]

-- as of the tapes of the widest choice, so of all tapes
pub none_at_all : (pair : RunPair) (bounds : Bounds) (p : Point) (tape : List ℕ) → IsTapeReached pair bounds p tape → covers pair bounds p tape ≡ false → IsLastWords (widest_choice pair.source) tape → HasNoCover pair bounds p
none_at_all pair bounds p tape reached fails last = λ other fits.
    let form = tapes_have_plain_forms pair.source bounds p.input other in
    sym (plain_covers pair bounds p other) ∙ none_of_width pair bounds p tape reached fails last (plain_form (need_of bounds.turns pair.source) (run_of pair.source bounds p.input other).taken) form.fits

pub least_of_all : (pair : RunPair) (bounds : Bounds) (p : Point) (tape : List ℕ) → IsTapeReached pair bounds p tape → covers pair bounds p tape ≡ true → IsLeastCover pair bounds p tape
least_of_all pair bounds p tape reached holds = record {
  fits = widen (widest_choice pair.source) (need_of bounds.turns pair.source) tape (widest_small pair.source) reached.fits;
  cover = holds;
  least = λ other fits less.
      let form = tapes_have_plain_forms pair.source bounds p.input other in
      let at_most = form.no_greater (WordsFit-length 64 (need_of bounds.turns pair.source) other fits) in
      sym (plain_covers pair bounds p other) ∙ reached.before _ form.fits (omega (arith, at_most, less));
}

pub tape_within : (pair : RunPair) (bounds : Bounds) (p : Point) (tape : List ℕ) → IsTapeReached pair bounds p tape → number_of tape < (2 ^ 64) ^ need_of bounds.turns pair.source
tape_within pair bounds p tape reached = number_of-below (need_of bounds.turns pair.source) tape (WordsFit-digits (widest_choice pair.source) (need_of bounds.turns pair.source) tape (widest_small pair.source) reached.fits)

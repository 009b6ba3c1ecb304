-- The line feeds among some bytes, counted by a search.
use Rattle.ir_lexer.proofs.Common.{◌≡◌, ℕ, zero, suc, ◌+◌, ◌≤◌, eqb, List, length, take, get_or, sym, ap, ◌∙◌, inl, inr, arith, cases_Bool}
use Rattle.std.specs.Prelude.{count_by}
use Rattle.std.proofs.lemmas.Bool.{false≢true}
use Rattle.std.proofs.lemmas.List.{take_all}
use Rattle.std.proofs.lemmas.List.Sums.{count_by_more_yes, count_by_more_no}
use Rattle.memchr.specs.Find.{is_byte, places, places_between}
use Rattle.memchr.proofs.lemmas.PlaceLemmas.{length-places_between-hit, length-places_between-miss, length-places_from}
use Rattle.text_places.specs.Place.{is_line_feed}

feeds-upto : (bytes : List ℕ) (n : ℕ) → n ≤ length bytes → length (places_between (is_byte 10) bytes 0 n) ≡ count_by is_line_feed (take n bytes)
feeds-upto bytes zero h = omega (arith, length-places_from (is_byte 10) bytes 0 0)
feeds-upto bytes (suc n) h =
    let next : suc n ≡ n + 1 = omega arith in
    let so_far = feeds-upto bytes n (omega arith) in
    let one_more : length (places_between (is_byte 10) bytes 0 (n + 1)) ≡ count_by is_line_feed (take (n + 1) bytes) =
    elim (cases_Bool (eqb (get_or bytes n 0) 10)) [
      | inl t ↦ omega (arith, so_far, length-places_between-hit (is_byte 10) bytes 0 n (omega arith) t, count_by_more_yes is_line_feed bytes n 0 (omega arith) t)
      | inr f ↦ omega (arith, so_far, length-places_between-miss (is_byte 10) bytes 0 n (omega arith) (λ t. false≢true (sym f ∙ t)), count_by_more_no is_line_feed bytes n 0 (omega arith) f)
    ] in
    ap (λ (k : ℕ). length (places_between (is_byte 10) bytes 0 k)) next ∙ one_more ∙ ap (λ (k : ℕ). count_by is_line_feed (take k bytes)) (sym next)

pub feeds-found : (bytes : List ℕ) → length (places (is_byte 10) bytes) ≡ count_by is_line_feed bytes
feeds-found bytes = feeds-upto bytes (length bytes) (omega arith) ∙ ap (count_by is_line_feed) (take_all (length bytes) bytes (omega arith))

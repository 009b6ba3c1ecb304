-- A log that refutes has no first bad step, so parts that refute are verified, and so is what is read of their text.
use Rattle.std.proofs.Common.{ℕ, ◌≡◌, ◌++◌, List, [], ◌∷◌, Option, Some, None, length, refl, ap, ap₂, subst, sym, ◌∙◌, ⊎_elim, is_none, nat_eq, cond, arith}
use Rattle.std.specs.List.{AllZip, flat_map}
use Rattle.std.proofs.lemmas.List.Elements.{All-cons, All-head, All-nil, All-tail, length_all_zip}
use Rattle.std.proofs.lemmas.List.Sums.{sum_by-cons}
use Rattle.clause_lits.specs.declared.lit.Lit.{Lit}
use Rattle.clause_log.specs.declared.step.Step.{Step}
use Rattle.clause_log.specs.Refutation.{Refutes, IsFirstBad}
use Rattle.proof_text.specs.declared.part.Part.{Part}
use Rattle.proof_text.specs.OneReading.{AreSameButFronts, IsSameButFront, ProofsAreOne}
use Rattle.proof_files.specs.Checks.{AreChecked, IsBadStep, bad_count, counts_line, outcome_line, outcome_lines, verified_count}
use Rattle.proof_files.specs.Laws.{AllRefute, AreVerified, ProofsAreVerified, TextsAreVerified}

pub no_bad_step : (clauses : List (List Lit)) (log : List Step) (index : ℕ) → Refutes clauses log → IsFirstBad clauses log index → ⊥
no_bad_step clauses log index refutes bad = ⊎_elim (λ step. step.1 (refutes.sound index step.0)) (λ last. last.1 refutes.empty) bad.here

abbrev DoesRefute : Part → Type 0
DoesRefute p = Refutes p.cert.cnf.clauses p.cert.log

-- each was found without a bad step
record NoneIsBad (parts : List Part) (found : List (Option ℕ)) : Type 0 where
  pub lines : outcome_lines parts found ≡ flat_map (λ p. outcome_line p None) parts
  pub verified : verified_count found ≡ length parts
  pub bad : bad_count found ≡ 0

none_is_bad : (parts : List Part) (found : List (Option ℕ)) → AllRefute parts → AllZip IsBadStep parts found → NoneIsBad parts found
none_is_bad [] [] all each = record { lines = refl; verified = refl; bad = refl }
none_is_bad [] (x ∷ xs) all each = absurd each
none_is_bad (p ∷ ps) [] all each = absurd each
none_is_bad (p ∷ ps) (None ∷ xs) all each =
    let rest = none_is_bad ps xs (All-tail DoesRefute p ps all) each.1 in
    let one_more = sum_by-cons (λ (b : Option ℕ). cond (is_none b) 1 0) None xs in
    record {
      lines = ap (λ (t : List ℕ). outcome_line p None ++ t) rest.lines;
      verified = omega (arith, one_more, rest.verified);
      bad = rest.bad;
    }
none_is_bad (p ∷ ps) (Some index ∷ xs) all each = absurd (no_bad_step p.cert.cnf.clauses p.cert.log index (All-head DoesRefute p ps all) each.0)

parts_verified : (parts : List Part) (lines : List ℕ) (status : ℕ) → AllRefute parts → AreChecked parts lines status → AreVerified parts lines status
parts_verified parts lines status all checked =
    let none = none_is_bad parts checked.found all checked.each in
    record {
      lines_are = checked.text_is ∙ ap₂ (λ (t c : List ℕ). t ++ c) none.lines (ap₂ counts_line none.verified none.bad);
      status_is = checked.status_is ∙ ap (λ n. cond (nat_eq n 0) 0 1) none.bad;
    }

pub verified : ProofsAreVerified
verified proof = parts_verified proof.parts

-- ---- what is read of a text

all_refute : (parts others : List Part) → AreSameButFronts parts others → AllRefute parts → AllRefute others
all_refute [] [] same all = All-nil DoesRefute
all_refute [] (q ∷ qs) same all = absurd same
all_refute (p ∷ ps) [] same all = absurd same
all_refute (p ∷ ps) (q ∷ qs) same all =
    let first = subst (λ (log : List Step). Refutes q.cert.cnf.clauses log) same.0.log (subst (λ (cs : List (List Lit)). Refutes cs p.cert.log) same.0.clauses (All-head DoesRefute p ps all)) in
    All-cons DoesRefute q qs first (all_refute ps qs same.1 (All-tail DoesRefute p ps all))

abbrev line : Part → List ℕ
line p = outcome_line p None

same_line : (p q : Part) → IsSameButFront p q → line p ≡ line q
same_line p q same = rw (same.name, same.is_correct) refl

same_lines : (parts others : List Part) → AreSameButFronts parts others → flat_map line parts ≡ flat_map line others
same_lines [] [] same = refl
same_lines [] (q ∷ qs) same = absurd same
same_lines (p ∷ ps) [] same = absurd same
same_lines (p ∷ ps) (q ∷ qs) same = ap₂ (λ (t rest : List ℕ). t ++ rest) (same_line p q same.0) (same_lines ps qs same.1)

pub texts_verified : ProofsAreOne → TextsAreVerified
texts_verified proofs_are_one text proof other lines status written all read checked =
    let same = (proofs_are_one text proof other written read).parts in
    let found = parts_verified other.parts lines status (all_refute proof.parts other.parts same all) checked in
    let long = length_all_zip IsSameButFront proof.parts other.parts same in
    record {
      lines_are = found.lines_are ∙ sym (ap₂ (λ (t : List ℕ) (n : ℕ). t ++ counts_line n 0) (same_lines proof.parts other.parts same) long);
      status_is = found.status_is;
    }

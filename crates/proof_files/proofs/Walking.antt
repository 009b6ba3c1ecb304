-- The parts of rows, one row after another, and what a check finds of parts, one part after another.
use Rattle.std.proofs.Common.{ℕ, ◌≡◌, ◌<◌, ◌≤◌, ◌+◌, All, Bool, List, [], ◌∷◌, ◌++◌, length, take, drop, get_or, append_assoc, append-nil, refl, sym, ap, ap₂, subst, ◌∙◌, Option, Some, is_none, is_some, count_by, arith}
use Rattle.std.specs.List.{AllZip}
use Rattle.std.proofs.lemmas.List.{drop_more, take_all}
use Rattle.std.proofs.lemmas.List.Elements.{All-head, All-tail}
use Rattle.std.proofs.lemmas.List.Sums.{count_by-le-length, sum_by-append}
use Rattle.pair_driver.specs.declared.judged.Judged.{Judged}
use Rattle.report.specs.declared.row.Row.{Row}
use Rattle.proof_text.specs.declared.part.Head.{Head}
use Rattle.proof_text.specs.declared.part.Part.{Part}
use Rattle.proof_text.specs.declared.part.Proof.{Proof}
use Rattle.clause_log.specs.declared.step.Cert.{Cert}
use Rattle.ir_naming.specs.Naming.{name_text}
use Rattle.proof_text.specs.Format.{IsProof, part_of, proof_with, with_parts}
use Rattle.proof_files.specs.Checks.{AreChecked, IsBadStep, bad_count, counts_line, outcome_line, outcome_lines, verified_count}
use Rattle.proof_files.specs.Parts.{IsCertified, decided, left_after, parts_of, row_parts}

-- ---- rows

-- the text is that of the head and of the rows before, and these are the answers for those that are left
pub record IsWalked (head : Head) (rows : List Row) (answers : List Judged) (i : ℕ) (left : List Judged) (text : List ℕ) : Type 0 where
  pub done : List Part
  pub written : IsProof text (proof_with (Some head) done)
  pub all : parts_of rows answers ≡ done ++ parts_of (drop i rows) left

next_row : (rows : List Row) (i : ℕ) (row : Row) → i < length rows → row ≡ get_or rows i row → drop i rows ≡ row ∷ drop (i + 1) rows
next_row rows i row below is = drop_more rows i row below ∙ ap (λ (r : Row). r ∷ drop (i + 1) rows) (sym is)

-- the parts of the next row
next_parts : (rows : List Row) (i : ℕ) (row : Row) (left : List Judged) → i < length rows → row ≡ get_or rows i row → parts_of (drop i rows) left ≡ row_parts row left ++ parts_of (drop (i + 1) rows) (left_after row.finding left)
next_parts rows i row left below is = ap (λ (rs : List Row). parts_of rs left) (next_row rows i row below is)

pub next_certified : (head : Head) (rows : List Row) (answers : List Judged) (i : ℕ) (row : Row) (left : List Judged) (text : List ℕ) → i < length rows → row ≡ get_or rows i row → IsWalked head rows answers i left text → All IsCertified (parts_of rows answers) → All IsCertified (row_parts row left)
next_certified head rows answers i row left text below is walked all =
    let more = subst (λ (ps : List Part). All IsCertified ps) (walked.all ∙ ap (λ (ps : List Part). walked.done ++ ps) (next_parts rows i row left below is)) all in
    first (row_parts row left) _ (rest walked.done _ more)
  where
    first : (xs ys : List Part) → All IsCertified (xs ++ ys) → All IsCertified xs
    first [] ys h = λ k d lt. absurd (omega (arith, lt))
    first (x ∷ xs) ys h = Rattle.std.proofs.lemmas.List.Elements.All-cons IsCertified x xs (All-head IsCertified x (xs ++ ys) h) (first xs ys (All-tail IsCertified x (xs ++ ys) h))

    rest : (xs ys : List Part) → All IsCertified (xs ++ ys) → All IsCertified ys
    rest [] ys h = h
    rest (x ∷ xs) ys h = rest xs ys (All-tail IsCertified x (xs ++ ys) h)

pub row_walked : (head : Head) (rows : List Row) (answers : List Judged) (i : ℕ) (row : Row) (left : List Judged) (text new : List ℕ) → i < length rows → row ≡ get_or rows i row → IsWalked head rows answers i left text
    → ((proof : Proof) → IsProof text proof → IsProof new (with_parts proof (row_parts row left))) → IsWalked head rows answers (i + 1) (left_after row.finding left) new
row_walked head rows answers i row left text new below is walked added = record {
  done = walked.done ++ row_parts row left;
  written = added (proof_with (Some head) walked.done) walked.written;
  all = walked.all ∙ ap (λ (ps : List Part). walked.done ++ ps) (next_parts rows i row left below is) ∙ sym (append_assoc walked.done (row_parts row left) (parts_of (drop (i + 1) rows) (left_after row.finding left)));
}

-- ---- parts

-- what was found of the first parts, and the text of their lines
pub record IsFound (parts : List Part) (i : ℕ) (text : List ℕ) (verified bad : ℕ) : Type 0 where
  pub found : List (Option ℕ)
  pub each : AllZip IsBadStep (take i parts) found
  pub text_is : text ≡ outcome_lines (take i parts) found
  pub verified_is : verified ≡ verified_count found
  pub bad_is : bad ≡ bad_count found
  pub few_verified : verified ≤ i
  pub few_bad : bad ≤ i

pub none_found : (parts : List Part) (text : List ℕ) → text ≡ [] → IsFound parts 0 text 0 0
none_found parts text e = record { found = []; each = tt; text_is = e; verified_is = refl; bad_is = refl; few_verified = omega arith; few_bad = omega arith }

zip_more : (parts : List Part) (found : List (Option ℕ)) (p : Part) (o : Option ℕ) → AllZip IsBadStep parts found → IsBadStep p o → AllZip IsBadStep (parts ++ p ∷ []) (found ++ o ∷ [])
zip_more [] [] p o each one = (one, tt)
zip_more [] (x ∷ xs) p o each one = absurd each
zip_more (q ∷ qs) [] p o each one = absurd each
zip_more (q ∷ qs) (x ∷ xs) p o each one = (each.0, zip_more qs xs p o each.1 one)

lines_more : (parts : List Part) (found : List (Option ℕ)) (p : Part) (o : Option ℕ) → AllZip IsBadStep parts found → outcome_lines (parts ++ p ∷ []) (found ++ o ∷ []) ≡ outcome_lines parts found ++ outcome_line p o
lines_more [] [] p o each = append-nil (outcome_line p o)
lines_more [] (x ∷ xs) p o each = absurd each
lines_more (q ∷ qs) [] p o each = absurd each
lines_more (q ∷ qs) (x ∷ xs) p o each = ap (λ (t : List ℕ). outcome_line q x ++ t) (lines_more qs xs p o each.1) ∙ sym (append_assoc (outcome_line q x) (outcome_lines qs xs) (outcome_line p o))

taken_more : (parts : List Part) (i : ℕ) (p : Part) → i < length parts → p ≡ get_or parts i p → take (i + 1) parts ≡ take i parts ++ p ∷ []
taken_more parts i p below is = Rattle.std.proofs.lemmas.List.take_more parts i p below ∙ ap (λ (q : Part). take i parts ++ q ∷ []) (sym is)

pub one_found : (parts : List Part) (i : ℕ) (p : Part) (o : Option ℕ) (text text' : List ℕ) (verified bad verified' bad' : ℕ) → i < length parts → p ≡ get_or parts i p → IsFound parts i text verified bad → IsBadStep p o → text' ≡ text ++ outcome_line p o
    → verified' ≡ verified + count_by (λ b. is_none b) (o ∷ []) → bad' ≡ bad + count_by (λ b. is_some b) (o ∷ []) → IsFound parts (i + 1) text' verified' bad'
one_found parts i p o text text' verified bad verified' bad' below is before one more v b =
    let taken = taken_more parts i p below is in
    record {
      found = before.found ++ o ∷ [];
      each = subst (λ (ps : List Part). AllZip IsBadStep ps (before.found ++ o ∷ [])) (sym taken) (zip_more (take i parts) before.found p o before.each one);
      text_is = more ∙ ap (λ (t : List ℕ). t ++ outcome_line p o) before.text_is ∙ sym (ap (λ (ps : List Part). outcome_lines ps (before.found ++ o ∷ [])) taken ∙ lines_more (take i parts) before.found p o before.each);
      verified_is = v ∙ ap (λ n. n + count_by (λ b. is_none b) (o ∷ [])) before.verified_is ∙ sym (sum_by-append (λ b. Rattle.std.specs.Prelude.cond (is_none b) 1 0) before.found (o ∷ []));
      bad_is = b ∙ ap (λ n. n + count_by (λ b. is_some b) (o ∷ [])) before.bad_is ∙ sym (sum_by-append (λ b. Rattle.std.specs.Prelude.cond (is_some b) 1 0) before.found (o ∷ []));
      few_verified = omega (arith, v, before.few_verified, count_by-le-length (λ b. is_none b) (o ∷ []));
      few_bad = omega (arith, b, before.few_bad, count_by-le-length (λ b. is_some b) (o ∷ []));
    }

pub all_found : (parts : List Part) (i : ℕ) (text text' : List ℕ) (verified bad status : ℕ) → length parts ≤ i → IsFound parts i text verified bad → text' ≡ text ++ counts_line verified bad → status ≡ Rattle.std.specs.Prelude.cond (Rattle.std.specs.Prelude.nat_eq bad 0) 0 1
    → AreChecked parts text' status
all_found parts i text text' verified bad status past before more is =
    let whole : take i parts ≡ parts = take_all i parts past in
    record {
      found = before.found;
      each = subst (λ (ps : List Part). AllZip IsBadStep ps before.found) whole before.each;
      text_is = more ∙ ap₂ (λ (t l : List ℕ). t ++ l) (before.text_is ∙ ap (λ (ps : List Part). outcome_lines ps before.found) whole) (ap₂ counts_line before.verified_is before.bad_is);
      status_is = is ∙ ap (λ n. Rattle.std.specs.Prelude.cond (Rattle.std.specs.Prelude.nat_eq n 0) 0 1) before.bad_is;
    }

-- ---- one row

pub row_certified : (row : Row) (answers : List Judged) (answer : Judged) (is_correct : Bool) (cert : Cert) → 1 ≤ length answers → answer ≡ get_or answers 0 answer → decided row.finding ≡ Some is_correct → answer.cert ≡ Some cert
    → All IsCertified (row_parts row answers) → IsCertified (part_of (name_text row.name) is_correct cert)
row_certified row [] answer is_correct cert some is d e all = absurd (omega (arith, some))
row_certified row (a ∷ others) answer is_correct cert some is d e all =
    let at : a.cert ≡ Some cert = sym (ap (λ (x : Judged). x.cert) is) ∙ e in
    let one : All IsCertified (part_of (name_text row.name) is_correct cert ∷ []) = rw (d, at) at all in
    All-head IsCertified (part_of (name_text row.name) is_correct cert) [] one

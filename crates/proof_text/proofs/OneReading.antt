-- A text has one head, and one list of parts but for their `front`.
use Rattle.proof_text.proofs.Common.{ℕ, ◌≡◌, List, [], ◌∷◌, ◌++◌, length, map, codes, All, sym, ap, ap₂, ◌∙◌, refl, arith, flat_map, append_cancel_left, All-head, All-tail, Option, Some, None, IfSome, Lit, Step, Head, Part, Lines, IsClauseOver, IsHead, IsPart, IsSmall, IsStepOver, clause_line, counts_line, head_line, head_lines, log_line, part_lines, proof_lines, row_line, status_text, step_line}
use Rattle.proof_text.specs.OneReading.{AreSameButFronts, IsSameButFront, ProofsAreOne}
use Rattle.proof_text.proofs.Chains.{same_chain}
use Rattle.proof_text.proofs.Clauses.{same_clause}
use Rattle.proof_text.proofs.Heads.{same_head}
use Rattle.proof_text.proofs.Languages.{formats_differ, part_first, same_counts, same_log, same_status, same_verdict}
use Rattle.proof_text.proofs.Top.{free_proof, same_lines}

abbrev step : List ℕ → List Lit → Step
step chain clause = record { chain = chain; clause = clause }

same_step : (v w : ℕ) (s t : Step) → IsSmall v → IsSmall w → IsStepOver v s → IsStepOver w t → step_line s ≡ step_line t → s ≡ t
same_step v w s t hv hw fs ft e =
    let both = same_chain s.chain t.chain (clause_line s.clause) (clause_line t.clause) fs.chain ft.chain e in
    ap₂ step both.0 (same_clause v w s.clause t.clause hv hw fs.clause.1 ft.clause.1 both.1)

-- this number of lines of a kind is determined, and what follows them
same_many : {X : Type 0} (text : X → List ℕ) (P Q : X → Type 0) → ((x y : X) → P x → Q y → text x ≡ text y → x ≡ y) → (xs ys : List X) (r s : Lines) → length xs ≡ length ys → All P xs → All Q ys → map text xs ++ r ≡ map text ys ++ s → (xs ≡ ys) × (r ≡ s)
same_many text P Q same [] [] r s len p q e = (refl, e)
same_many text P Q same [] (y ∷ ys) r s len p q e = absurd (omega (arith, len))
same_many text P Q same (x ∷ xs) [] r s len p q e = absurd (omega (arith, len))
same_many {X} text P Q same (x ∷ xs) (y ∷ ys) r s len p q e =
    let heads : text x ≡ text y = cc in
    let tails : map text xs ++ r ≡ map text ys ++ s = cc in
    let rest = same_many text P Q same xs ys r s (omega (arith, len)) (All-tail P x xs p) (All-tail Q y ys q) tails in
    (ap₂ (λ (z : X) (zs : List X). z ∷ zs) (same x y (All-head P x xs p) (All-head Q y ys q) heads) rest.0, rest.1)

-- the first part is determined, and what follows it
same_first : (p q : Part) (ps qs : List Part) → IsPart p → IsPart q → flat_map part_lines (p ∷ ps) ≡ flat_map part_lines (q ∷ qs) → IsSameButFront p q × (flat_map part_lines ps ≡ flat_map part_lines qs)
same_first p q ps qs fp fq e =
    let a = p.cert in
    let b = q.cert in
    let v = a.cnf.variables in
    let w = b.cnf.variables in
    let from_log = λ (r : Part) (rs : List Part). log_line (length r.cert.log) ∷ (map step_line r.cert.log ++ flat_map part_lines rs) in
    let from_clauses = λ (r : Part) (rs : List Part). map clause_line r.cert.cnf.clauses ++ from_log r rs in
    let whole = sym (part_first p ps) ∙ e ∙ part_first q qs in
    let rows : row_line p.name p.is_correct ≡ row_line q.name q.is_correct = cc in
    let counts_lines : counts_line v (length a.cnf.clauses) ≡ counts_line w (length b.cnf.clauses) = cc in
    let after_counts : from_clauses p ps ≡ from_clauses q qs = cc in
    let named = append_cancel_left (codes "row @") (p.name ++ status_text p.is_correct) (q.name ++ status_text q.is_correct) rows in
    let counts = same_counts v (length a.cnf.clauses) w (length b.cnf.clauses) fp.variables fp.clause_count fq.variables fq.clause_count counts_lines in
    let clauses = same_many clause_line (IsClauseOver v) (IsClauseOver w) (λ c d f g. same_clause v w c d fp.variables fq.variables f.1 g.1) a.cnf.clauses b.cnf.clauses (from_log p ps) (from_log q qs) counts.1 fp.clauses fq.clauses after_counts in
    let after_clauses = clauses.1 in
    let log_lines : log_line (length a.log) ≡ log_line (length b.log) = cc in
    let after_log : map step_line a.log ++ flat_map part_lines ps ≡ map step_line b.log ++ flat_map part_lines qs = cc in
    let steps = same_many step_line (IsStepOver v) (IsStepOver w) (λ s t f g. same_step v w s t fp.variables fq.variables f g) a.log b.log (flat_map part_lines ps) (flat_map part_lines qs) (same_log (length a.log) (length b.log) fp.step_count fq.step_count log_lines) fp.steps fq.steps after_log in (
      record {
        name = same_status p.name q.name p.is_correct q.is_correct named;
        is_correct = same_verdict p.name q.name p.is_correct q.is_correct named;
        variables = counts.0;
        clauses = clauses.0;
        log = steps.0;
      },
      steps.1,
    )

same_all : (ps qs : List Part) → All IsPart ps → All IsPart qs → flat_map part_lines ps ≡ flat_map part_lines qs → AreSameButFronts ps qs
same_all [] [] fp fq e = tt
same_all [] (q ∷ qs) fp fq e = let whole = e ∙ part_first q qs in absurd cc
same_all (p ∷ ps) [] fp fq e = let whole = sym e ∙ part_first p ps in absurd cc
same_all (p ∷ ps) (q ∷ qs) fp fq e =
    let first = same_first p q ps qs (All-head IsPart p ps fp) (All-head IsPart q qs fq) e in
    (first.0, same_all ps qs (All-tail IsPart p ps fp) (All-tail IsPart q qs fq) first.1)

-- the head is determined, and what follows it
same_start : (g h : Option Head) (x y : Lines) → IfSome g IsHead → IfSome h IsHead → head_lines g ++ x ≡ head_lines h ++ y → (g ≡ h) × (x ≡ y)
same_start None None x y fg fh e = (refl, cc)
same_start None (Some h) x y fg fh e = absurd (formats_differ x (head_line h ∷ y) e)
same_start (Some g) None x y fg fh e = absurd (formats_differ y (head_line g ∷ x) (sym e))
same_start (Some g) (Some h) x y fg fh e =
    let lines : head_line g ≡ head_line h = cc in
    let tails : x ≡ y = cc in
    (ap Some (same_head g h fg fh lines), tails)

pub proofs_are_one : ProofsAreOne
proofs_are_one text proof other p q =
    let lines = same_lines (proof_lines proof) (proof_lines other) (free_proof proof p.fit) (free_proof other q.fit) (sym p.is ∙ q.is) in
    let start = same_start proof.head other.head (flat_map part_lines proof.parts) (flat_map part_lines other.parts) p.fit.head q.fit.head lines in
    record { head = start.0; parts = same_all proof.parts other.parts p.fit.parts q.fit.parts start.1 }

-- Reading a part, and the parts one after another.
use Rattle.proof_text.proofs.Common.{ℕ, ◌≡◌, List, [], ◌∷◌, ◌++◌, length, map, All, append_assoc, append-nil, subst, sym, ap, ◌∙◌, flat_map, flat_map-append, Option, Lit, Head, Part, IsClauseOver, IsPart, IsPrintedName, IsSmall, IsStepOver, clause_line, counts_line, head_lines, log_line, part_lines, proof_lines, proof_with, row_line, step_line, Clauses, Counts, File, Lines, Log, Moves, Rows, Steps}
use Rattle.proof_text.proofs.Moves.{moves_then}

pub part_fits : (p : Part) (v n k : ℕ) (cs : List (List Lit)) → p.cert.cnf.variables ≡ v → p.cert.cnf.clauses ≡ cs → IsPrintedName p.name → IsSmall v → IsSmall n → IsSmall k → length cs ≡ n → length p.cert.log ≡ k → All (IsClauseOver v) cs → All (IsStepOver v) p.cert.log → IsPart p
part_fits p v n k cs ev ec name hv hn hk en ek fc fs = record {
  name = name;
  variables = subst IsSmall (sym ev) hv;
  clause_count = subst IsSmall (sym (ap length ec ∙ en)) hn;
  step_count = subst IsSmall (sym ek) hk;
  clauses = subst (λ w. All (IsClauseOver w) p.cert.cnf.clauses) (sym ev) (subst (λ ds. All (IsClauseOver v) ds) (sym ec) fc);
  steps = subst (λ w. All (IsStepOver w) p.cert.log) (sym ev) fs;
}

pub part_moves : (p : Part) (v n k : ℕ) (cs : List (List Lit)) (old l1 l2 l3 l4 new : List ℕ) → p.cert.cnf.variables ≡ v → p.cert.cnf.clauses ≡ cs → length cs ≡ n → length p.cert.log ≡ k
    → Moves Rows old (row_line p.name p.is_correct ∷ []) Counts l1
    → Moves Counts l1 (counts_line v n ∷ []) (Clauses v n) l2
    → Moves (Clauses v n) l2 (map clause_line cs) (Log v) l3
    → Moves (Log v) l3 (log_line k ∷ []) (Steps v k) l4
    → Moves (Steps v k) l4 (map step_line p.cert.log) Rows new
    → Moves Rows old (part_lines p) Rows new
part_moves p v n k cs old l1 l2 l3 l4 new ev ec en ek m1 m2 m3 m4 m5 =
    let row = row_line p.name p.is_correct in
    let steps = map step_line p.cert.log in
    let tail = λ (w : ℕ) (ds : List (List Lit)) (m j : ℕ). row ∷ counts_line w m ∷ (map clause_line ds ++ log_line j ∷ steps) in
    let from_log = moves_then (Log v) (Steps v k) Rows l3 l4 new (log_line k ∷ []) steps m4 m5 in
    let from_clauses = moves_then (Clauses v n) (Log v) Rows l2 l3 new (map clause_line cs) (log_line k ∷ steps) m3 from_log in
    let from_counts = moves_then Counts (Clauses v n) Rows l1 l2 new (counts_line v n ∷ []) (map clause_line cs ++ log_line k ∷ steps) m2 from_clauses in
    let whole = moves_then Rows Counts Rows old l1 new (row ∷ []) (counts_line v n ∷ (map clause_line cs ++ log_line k ∷ steps)) m1 from_counts in
    subst (λ w. Moves Rows old (tail w p.cert.cnf.clauses (length p.cert.cnf.clauses) (length p.cert.log)) Rows new) (sym ev)
    (subst (λ ds. Moves Rows old (tail v ds (length ds) (length p.cert.log)) Rows new) (sym ec)
    (subst (λ m. Moves Rows old (tail v cs m (length p.cert.log)) Rows new) (sym en)
    (subst (λ j. Moves Rows old (tail v cs n j) Rows new) (sym ek) whole)))

pub parts_push : (text mid new : List ℕ) (head : Option Head) (ps : List Part) (p : Part) → Moves File text (proof_lines (proof_with head ps)) Rows mid → Moves Rows mid (part_lines p) Rows new → Moves File text (proof_lines (proof_with head (ps ++ p ∷ []))) Rows new
parts_push text mid new head ps p m n =
    let more : flat_map part_lines ps ++ part_lines p ≡ flat_map part_lines (ps ++ p ∷ []) = ap (λ (t : Lines). flat_map part_lines ps ++ t) (sym (append-nil (part_lines p))) ∙ sym (flat_map-append part_lines ps (p ∷ [])) in
    let whole = append_assoc (head_lines head) (flat_map part_lines ps) (part_lines p) ∙ ap (λ (t : Lines). head_lines head ++ t) more in
    subst (λ (t : Lines). Moves File text t Rows new) whole (moves_then File Rows Rows text mid new (proof_lines (proof_with head ps)) (part_lines p) m n)

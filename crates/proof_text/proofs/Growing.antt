-- The text of a proof, and one part more.
use Rattle.proof_text.proofs.Common.{ℕ, ◌≡◌, ◌<◌, ◌+◌, Bool, get_or, length, subst, take, List, [], ◌∷◌, ◌++◌, append_assoc, append-nil, sym, ap, ◌∙◌, flat_map, flat_map-append, All-push, Part, Proof, IsPart, IsProof, cert_lines, ended, head_lines, part_lines, part_of, proof_lines, proof_with, row_line, with_parts}
use Rattle.std.proofs.lemmas.List.{take_more}
use Rattle.clause_log.specs.declared.step.Cert.{Cert}

lines_more : (proof : Proof) (p : Part) → proof_lines (with_parts proof (p ∷ [])) ≡ proof_lines proof ++ part_lines p
lines_more proof p =
    let before = flat_map part_lines proof.parts in
    ap (λ (lines : List (List ℕ)). head_lines proof.head ++ lines)
    (flat_map-append part_lines proof.parts (p ∷ []) ∙ ap (λ (lines : List (List ℕ)). before ++ lines) (append-nil (part_lines p)))
    ∙ sym (append_assoc (head_lines proof.head) before (part_lines p))

pub proof_more : (proof : Proof) (name : List ℕ) (is_correct : Bool) (cert : Cert) (old mid new : List ℕ) → IsPart (part_of name is_correct cert) → IsProof old proof
    → mid ≡ old ++ (row_line name is_correct ++ 10 ∷ []) → new ≡ mid ++ ended (cert_lines cert) → IsProof new (with_parts proof (part_of name is_correct cert ∷ []))
proof_more proof name is_correct cert old mid new fits written row rest =
    let p : Part = part_of name is_correct cert in
    let line : List ℕ = row_line name is_correct ++ 10 ∷ [] in
    record {
      fit = record { head = written.fit.head; parts = All-push IsPart proof.parts p written.fit.parts fits };
      is =
          rest
          ∙ ap (λ (t : List ℕ). t ++ ended (cert_lines cert)) row
          ∙ append_assoc old line (ended (cert_lines cert))
          ∙ ap (λ (t : List ℕ). t ++ ended (part_lines p)) written.is
          ∙ sym (flat_map-append (λ (l : List ℕ). l ++ 10 ∷ []) (proof_lines proof) (part_lines p))
          ∙ ap ended (sym (lines_more proof p));
    }

-- where the first of these parts were added, and then the next one
pub parts_more : (proof : Proof) (parts : List Part) (i : ℕ) (p : Part) (name new : List ℕ) → i < length parts → p ≡ get_or parts i p → name ≡ p.name
    → IsProof new (with_parts (with_parts proof (take i parts)) (part_of name p.is_correct p.cert ∷ [])) → IsProof new (with_parts proof (take (i + 1) parts))
parts_more proof parts i p name new below is same written =
    let taken : take (i + 1) parts ≡ take i parts ++ p ∷ [] = take_more parts i p below ∙ ap (λ (q : Part). take i parts ++ q ∷ []) (sym is) in
    let whole = append_assoc proof.parts (take i parts) (p ∷ []) ∙ ap (λ (ps : List Part). proof.parts ++ ps) (sym taken) in
    subst (λ (ps : List Part). IsProof new (proof_with proof.head ps)) whole
    (subst (λ (n : List ℕ). IsProof new (with_parts (with_parts proof (take i parts)) (part_of n p.is_correct p.cert ∷ []))) same written)

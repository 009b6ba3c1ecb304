-- Bits that are found in the table.
use Rattle.std.proofs.Common.{◌≡◌, true, false, List, [], Option, Some, None, is_some, Bor, ap, sym, ◌∙◌}
use Rattle.std.specs.Option.{option_copied, unwrap_or}
use Rattle.gates.specs.declared.circuit.GateId.{GateId}

-- what is found is there
pub some_copied : (o : Option (Bor (List GateId))) (p : Option (List GateId)) → option_copied o ≡ p → is_some o ≡ true → (digits : List GateId) × (p ≡ Some digits)
some_copied None p e h = absurd (let z : ⊥ = cc in z)
some_copied (Some x) p e h = (x.now, sym e)

pub none_copied : (o : Option (Bor (List GateId))) (p : Option (List GateId)) → option_copied o ≡ p → is_some o ≡ false → p ≡ None
none_copied None p e h = sym e
none_copied (Some x) p e h = absurd (let z : ⊥ = cc in z)

-- the bits of a variable that are found, or none
pub found_or_none : (o : Option (Bor (List GateId))) (p : Option (List GateId)) (digits : Bor (List GateId)) → option_copied o ≡ p → o ≡ Some digits → digits.now ≡ unwrap_or p []
found_or_none o p digits e h = sym (ap (λ q. unwrap_or q []) (sym e ∙ ap option_copied h))

pub not_found : (o : Option (Bor (List GateId))) (p : Option (List GateId)) → option_copied o ≡ p → o ≡ None → [] ≡ unwrap_or p []
not_found o p e h = sym (ap (λ q. unwrap_or q []) (sym e ∙ ap option_copied h))

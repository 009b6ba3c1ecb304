-- The number that is written for a term by gates over those of earlier ones.
use Rattle.std.specs.Prelude.{ℕ, ◌≡◌, ◌<◌, ◌≤◌, ◌+◌, ◌-◌, ◌*◌, ◌/◌, ◌%◌, ◌^◌, Bool, false, cond, List, [], ◌∷◌, length, slice_index_or, Some}
use Rattle.std.specs.Option.{unwrap_or}
use Rattle.bv_terms.specs.declared.term.TermId.{TermId}
use Rattle.bv_terms.specs.declared.term.Term.{Term}
use Rattle.bv_terms.specs.declared.term.Term.TheVariants as term
use Rattle.bv_terms.specs.Tree.{binary_value, binary_width, extended_signed}
use Rattle.bv_terms.specs.Trees.{IsWidth}
use Rattle.gates.specs.declared.circuit.GateId.{GateId}
use Rattle.gates.specs.declared.circuit.Gate.{Gate}
use Rattle.gates.specs.Values.{gate_at}
use Rattle.gate_arith.specs.Numbers.{AreGates, number_at}
use Rattle.bv_terms.specs.declared.variable.Variable.{Variable}
use Rattle.bit_blast.specs.Table.{digits_of}

-- the terms that a term names
abbrev pub operands : Term → List TermId
operands (term.Constant value width) = []
operands (term.Variable number width) = []
operands (term.Not a width) = a ∷ []
operands (term.Binary op a b width) = a ∷ b ∷ []
operands (term.Ite c a b width) = c ∷ a ∷ b ∷ []
operands (term.Extract a from width) = a ∷ []
operands (term.Concat high low below width) = high ∷ low ∷ []
operands (term.Zext a width) = a ∷ []
operands (term.Sext a from width) = a ∷ []

-- the bits of an earlier term, and how many they are
abbrev pub digits_at : List (List GateId) → TermId → List GateId
digits_at done a = slice_index_or done a.index []

abbrev pub size_in : List (List GateId) → TermId → ℕ
size_in done a = length (digits_at done a)

-- the number that they write
abbrev pub number_in : (ℕ → Bool) → List Gate → List (List GateId) → TermId → ℕ
number_in inputs gates done a = number_at inputs gates (digits_at done a)

-- the value of the first of them
abbrev pub first_in : (ℕ → Bool) → List Gate → List (List GateId) → TermId → Bool
first_in inputs gates done a = gate_at inputs gates (slice_index_or (digits_at done a) 0 (record { index = 0; negated = false }))

-- the bits of a variable, or none where it has none
abbrev pub digits_or_none : List (Variable × List GateId) → ℕ → ℕ → List GateId
digits_or_none table number width = unwrap_or (digits_of table (record { number = number; width = width })) []

-- the number that is written for a term over those of the earlier ones
abbrev pub written : (ℕ → Bool) → List Gate → List (Variable × List GateId) → List (List GateId) → Term → ℕ
written inputs gates table done (term.Constant value width) = value
written inputs gates table done (term.Variable number width) = number_at inputs gates (digits_or_none table number width)
written inputs gates table done (term.Not a width) = 2 ^ size_in done a - 1 - number_in inputs gates done a
written inputs gates table done (term.Binary op a b width) = binary_value op (size_in done a) (number_in inputs gates done a) (number_in inputs gates done b)
written inputs gates table done (term.Ite c a b width) = cond (first_in inputs gates done c) (number_in inputs gates done a) (number_in inputs gates done b)
written inputs gates table done (term.Extract a from width) = number_in inputs gates done a / 2 ^ from % 2 ^ width
written inputs gates table done (term.Concat high low below width) = number_in inputs gates done high * 2 ^ size_in done low + number_in inputs gates done low
written inputs gates table done (term.Zext a width) = number_in inputs gates done a
written inputs gates table done (term.Sext a from width) = extended_signed (size_in done a) width (number_in inputs gates done a)

-- the number of bits that write it
abbrev pub written_size : List (Variable × List GateId) → List (List GateId) → Term → ℕ
written_size table done (term.Constant value width) = width
written_size table done (term.Variable number width) = length (digits_or_none table number width)
written_size table done (term.Not a width) = size_in done a
written_size table done (term.Binary op a b width) = binary_width op (size_in done a)
written_size table done (term.Ite c a b width) = size_in done a
written_size table done (term.Extract a from width) = width
written_size table done (term.Concat high low below width) = size_in done high + size_in done low
written_size table done (term.Zext a width) = width
written_size table done (term.Sext a from width) = width

-- a term that is a variable has bits already
abbrev pub HasVariable : List (Variable × List GateId) → Term → Type 0
HasVariable table (term.Variable number width) = (digits : List GateId) × (digits_of table (record { number = number; width = width }) ≡ Some digits)
HasVariable table (term.Constant value width) = Unit {0}
HasVariable table (term.Not a width) = Unit {0}
HasVariable table (term.Binary op a b width) = Unit {0}
HasVariable table (term.Ite c a b width) = Unit {0}
HasVariable table (term.Extract a from width) = Unit {0}
HasVariable table (term.Concat high low below width) = Unit {0}
HasVariable table (term.Zext a width) = Unit {0}
HasVariable table (term.Sext a from width) = Unit {0}

-- two earlier terms have gates of the circuit, the same number each
pub record ArePaired (gates : List Gate) (done : List (List GateId)) (a b : TermId) : Type 0 where
  pub left : AreGates gates (digits_at done a)
  pub right : AreGates gates (digits_at done b)
  pub alike : length (digits_at done a) ≡ length (digits_at done b)

-- the bits of what a term names are gates of the circuit, and as many as the operation needs
abbrev pub AreReady : List Gate → List (Variable × List GateId) → List (List GateId) → Term → Type 0
AreReady gates table done (term.Constant value width) = IsWidth width × (value < 2 ^ width)
AreReady gates table done (term.Variable number width) = AreGates gates (digits_or_none table number width)
AreReady gates table done (term.Not a width) = AreGates gates (digits_at done a)
AreReady gates table done (term.Binary op a b width) = ArePaired gates done a b × (1 ≤ size_in done a) × (size_in done a ≤ 128)
AreReady gates table done (term.Ite c a b width) = ArePaired gates done a b × AreGates gates (digits_at done c) × (1 ≤ size_in done c)
AreReady gates table done (term.Extract a from width) = AreGates gates (digits_at done a) × (from + width ≤ size_in done a)
AreReady gates table done (term.Concat high low below width) = AreGates gates (digits_at done high) × AreGates gates (digits_at done low)
AreReady gates table done (term.Zext a width) = AreGates gates (digits_at done a) × (size_in done a ≤ width)
AreReady gates table done (term.Sext a from width) = AreGates gates (digits_at done a) × (1 ≤ size_in done a) × (size_in done a ≤ width)

-- What it means that a form has the value of a tree, and at most as many nodes.
use Rattle.std.specs.Prelude.{ℕ, ◌≡◌, ◌⊎◌, ◌<◌, ◌≤◌, ◌+◌, ◌-◌, ◌*◌, ◌/◌, ◌%◌, ◌^◌, Bool, cond, List, bit_and, bit_or, bit_xor, length}
use Rattle.bv_terms.specs.declared.term.BinaryOp.TheVariants as op
use Rattle.bv_terms.specs.declared.term.TermId.{TermId}
use Rattle.bv_terms.specs.declared.term.Term.{Term}
use Rattle.bv_terms.specs.Tree as tree
use Rattle.bv_terms.specs.Tree.{Tree, is_negative, quotient, remainder, value_of, width_of}
use Rattle.bv_terms.specs.Trees.{AreMatched, IsNoVariable, IsTerm, IsWidth, IsWithin, bit_at, term_at, tree_in, tree_of, trees_of}
use Rattle.known_values.specs.Weight.{weight_of}
use Rattle.term_rules.specs.declared.factors.Factors.{Factors}
use Rattle.term_rules.specs.declared.form.Form.{Form}
use Rattle.term_rules.specs.declared.form.Form.TheVariants.{Built, Divided, Known, Nonzero, Raised, Shifted}
use Rattle.term_rules.specs.declared.low_bits.Kind.{Kind}
use Rattle.term_rules.specs.declared.low_bits.Kind.TheVariants.{Sum, Difference, Reverse, Product, Conjunction, Disjunction, Exclusive}
use Rattle.term_rules.specs.declared.low_bits.NarrowChoice.{NarrowChoice}
use Rattle.term_rules.specs.declared.low_bits.Narrowing.{Narrowing}
use Rattle.term_rules.specs.declared.low_bits.Operation.{Operation}
use Rattle.term_rules.specs.declared.nested_divisions.Division.{Division}
use Rattle.term_rules.specs.declared.shrinking.Shrunk.{Shrunk}
use Rattle.term_rules.specs.declared.signed_divisions.SignedDivision.{SignedDivision}
use Rattle.term_rules.specs.declared.widths.BitRange.{BitRange}

-- a term that is there, one over terms that are there, the sum of one with a number, one shifted left or divided by a number, or whether one is not 0
abbrev pub form_tree : List Term → Form → Tree
form_tree terms (Known id) = tree_in terms id
form_tree terms (Built t) = tree_of (trees_of terms) t
form_tree terms (Raised a by width) = tree.Binary op.Add (tree_in terms a) (tree.Constant by width) width
form_tree terms (Shifted a by width) = tree.Binary op.Shl (tree_in terms a) (tree.Constant by width) width
form_tree terms (Divided a by width) = tree.Binary op.Udiv (tree_in terms a) (tree.Constant by width) width
form_tree terms (Nonzero a width) = tree.Not (tree.Binary op.Eq (tree_in terms a) (tree.Constant 0 width) width) 1

-- a term that is valid after these, and is no variable
pub record IsApplied (terms : List Term) (t : Term) : Type 0 where
  pub within : IsWithin (length terms) t
  pub matched : AreMatched (trees_of terms) t
  pub operation : IsNoVariable t

-- a term and a number of this width
pub record AreOperands (terms : List Term) (a : TermId) (value width : ℕ) : Type 0 where
  pub within : a.index < length terms
  pub wide : width_of (tree_in terms a) ≡ width
  pub range : IsWidth width
  pub fits : value < 2 ^ width

-- the form can be made of these terms
abbrev pub IsForm : List Term → Form → Type 0
IsForm terms (Known id) = id.index < length terms
IsForm terms (Built t) = IsApplied terms t
IsForm terms (Raised a by width) = AreOperands terms a by width
IsForm terms (Shifted a by width) = AreOperands terms a by width
IsForm terms (Divided a by width) = AreOperands terms a by width
IsForm terms (Nonzero a width) = AreOperands terms a 0 width

-- the form has the width of the tree and its value under each assignment, and at most as many nodes
pub record Simplifies (terms : List Term) (plain : Tree) (form : Form) : Type 0 where
  pub fit : IsForm terms form
  pub wide : width_of (form_tree terms form) ≡ width_of plain
  pub says : (v : ℕ → ℕ → ℕ) → value_of v (form_tree terms form) ≡ value_of v plain
  pub least : weight_of (form_tree terms form) ≤ weight_of plain

-- the second and this are the first under each assignment, added at its width
pub record IsRest (terms : List Term) (a b rest : TermId) : Type 0 where
  pub within : rest.index < length terms
  pub wide : width_of (tree_in terms rest) ≡ width_of (tree_in terms a)
  pub says : (v : ℕ → ℕ → ℕ) → term_at v terms a ≡ (term_at v terms rest + term_at v terms b) % 2 ^ width_of (tree_in terms a)
  pub least : weight_of (tree_in terms rest) ≤ weight_of (tree_in terms a)

-- the second is the first without this under each assignment, at its width
pub record IsTakenFrom (terms : List Term) (a b taken : TermId) : Type 0 where
  pub within : taken.index < length terms
  pub wide : width_of (tree_in terms taken) ≡ width_of (tree_in terms b)
  pub says : (v : ℕ → ℕ → ℕ) → term_at v terms b ≡ (term_at v terms a + (2 ^ width_of (tree_in terms b) - term_at v terms taken)) % 2 ^ width_of (tree_in terms b)
  pub least : weight_of (tree_in terms taken) ≤ weight_of (tree_in terms b)

-- the first is this without the second under each assignment, at its width
pub record IsPart (terms : List Term) (a b whole : TermId) : Type 0 where
  pub within : whole.index < length terms
  pub wide : width_of (tree_in terms whole) ≡ width_of (tree_in terms a)
  pub says : (v : ℕ → ℕ → ℕ) → term_at v terms a ≡ (term_at v terms whole + (2 ^ width_of (tree_in terms a) - term_at v terms b)) % 2 ^ width_of (tree_in terms a)
  pub least : weight_of (tree_in terms whole) ≤ weight_of (tree_in terms a)

-- the first is the product of the second and this under each assignment, at its width
pub record IsCofactor (terms : List Term) (a common rest : TermId) : Type 0 where
  pub within : rest.index < length terms
  pub wide : width_of (tree_in terms rest) ≡ width_of (tree_in terms a)
  pub alike : width_of (tree_in terms common) ≡ width_of (tree_in terms a)
  pub says : (v : ℕ → ℕ → ℕ) → term_at v terms a ≡ (term_at v terms common * term_at v terms rest) % 2 ^ width_of (tree_in terms a)
  pub least : 1 + weight_of (tree_in terms common) + weight_of (tree_in terms rest) ≤ weight_of (tree_in terms a)

-- the two are products of the common factor with one more each
pub record IsFactored (terms : List Term) (a b : TermId) (f : Factors) : Type 0 where
  pub within : f.common.index < length terms
  pub first : IsCofactor terms a f.common f.first
  pub second : IsCofactor terms b f.common f.second

-- ---- operations whose low bits come from the low bits of their operands

abbrev pub operation_tree : Kind → Tree → Tree → ℕ → Tree
operation_tree Sum a b width = tree.Binary op.Add a b width
operation_tree Difference a b width = tree.Binary op.Sub a b width
operation_tree Reverse a b width = tree.Binary op.Sub b a width
operation_tree Product a b width = tree.Binary op.Mul a b width
operation_tree Conjunction a b width = tree.Binary op.And a b width
operation_tree Disjunction a b width = tree.Binary op.Or a b width
operation_tree Exclusive a b width = tree.Binary op.Xor a b width

abbrev pub operated : Kind → (width x y : ℕ) → ℕ
operated Sum width x y = (x + y) % 2 ^ width
operated Difference width x y = (x + (2 ^ width - y)) % 2 ^ width
operated Reverse width x y = (y + (2 ^ width - x)) % 2 ^ width
operated Product width x y = (x * y) % 2 ^ width
operated Conjunction width x y = bit_and x y
operated Disjunction width x y = bit_or x y
operated Exclusive width x y = bit_xor x y

-- the term is this operation on these terms
pub record IsOperation (terms : List Term) (a : TermId) (o : Operation) : Type 0 where
  pub left : IsTerm terms (width_of (tree_in terms a)) o.a
  pub right : IsTerm terms (width_of (tree_in terms a)) o.b
  pub says : (v : ℕ → ℕ → ℕ) → term_at v terms a ≡ operated o.kind (width_of (tree_in terms a)) (term_at v terms o.a) (term_at v terms o.b)
  pub least : 1 + weight_of (tree_in terms o.a) + weight_of (tree_in terms o.b) ≤ weight_of (tree_in terms a)

-- the form has the term's low bits and at most as many nodes as the term
pub record IsLow (terms : List Term) (a : TermId) (width : ℕ) (form : Form) : Type 0 where
  pub fit : IsForm terms form
  pub wide : width_of (form_tree terms form) ≡ width
  pub says : (v : ℕ → ℕ → ℕ) → value_of v (form_tree terms form) ≡ term_at v terms a % 2 ^ width
  pub least : weight_of (form_tree terms form) ≤ weight_of (tree_in terms a)

-- the term's low bits are those of the operation on the form and the low bits of the other operand
pub record IsNarrowing (terms : List Term) (a : TermId) (width : ℕ) (n : Narrowing) : Type 0 where
  pub fit : IsForm terms n.form
  pub wide : width_of (form_tree terms n.form) ≡ width
  pub rest : IsTerm terms (width_of (tree_in terms a)) n.rest
  pub says : (v : ℕ → ℕ → ℕ) → term_at v terms a % 2 ^ width ≡ operated n.kind width (value_of v (form_tree terms n.form)) (term_at v terms n.rest % 2 ^ width)
  pub least : 1 + weight_of (form_tree terms n.form) + weight_of (tree_in terms n.rest) ≤ weight_of (tree_in terms a)

-- a choice between two numbers, the first of which is the first arm or the second one
abbrev pub chosen_arm : Bool → Bool → ℕ → ℕ → ℕ
chosen_arm is_first c x y = cond is_first (cond c x y) (cond c y x)

-- the term's low bits are a choice between the form and the low bits of the other arm
pub record IsNarrowChoice (terms : List Term) (a : TermId) (width : ℕ) (n : NarrowChoice) : Type 0 where
  pub condition : IsTerm terms 1 n.c
  pub fit : IsForm terms n.form
  pub wide : width_of (form_tree terms n.form) ≡ width
  pub rest : IsTerm terms (width_of (tree_in terms a)) n.rest
  pub says : (v : ℕ → ℕ → ℕ) → term_at v terms a % 2 ^ width ≡ chosen_arm n.is_first (bit_at v terms n.c) (value_of v (form_tree terms n.form)) (term_at v terms n.rest % 2 ^ width)
  pub least : 1 + weight_of (tree_in terms n.c) + weight_of (form_tree terms n.form) + weight_of (tree_in terms n.rest) ≤ weight_of (tree_in terms a)

-- ---- numbers at the width that they had before they were widened

-- the term is this one, widened with zeros
pub record IsWidened (terms : List Term) (a inner : TermId) : Type 0 where
  pub within : inner.index < length terms
  pub narrow : width_of (tree_in terms inner) ≤ width_of (tree_in terms a)
  pub says : (v : ℕ → ℕ → ℕ) → term_at v terms inner ≡ term_at v terms a
  pub least : 1 + weight_of (tree_in terms inner) ≤ weight_of (tree_in terms a)

-- the first and the form can be made, and are of one width
pub record IsPair (terms : List Term) (s : Shrunk) : Type 0 where
  pub within : s.first.index < length terms
  pub fit : IsForm terms s.second
  pub wide : width_of (tree_in terms s.first) ≡ width_of (form_tree terms s.second)

-- the two have the values of these, of which the first was widened
pub record IsShrunk (terms : List Term) (a b : TermId) (s : Shrunk) : Type 0 where
  pub pair : IsPair terms s
  pub narrow : width_of (tree_in terms s.first) ≤ width_of (tree_in terms a)
  pub first : (v : ℕ → ℕ → ℕ) → term_at v terms s.first ≡ term_at v terms a
  pub second : (v : ℕ → ℕ → ℕ) → value_of v (form_tree terms s.second) ≡ term_at v terms b
  pub least : 1 + weight_of (tree_in terms s.first) + weight_of (form_tree terms s.second) ≤ weight_of (tree_in terms a) + weight_of (tree_in terms b)

-- the first is the greatest number of this term's width, and the second is this term, widened
pub record IsTaken (terms : List Term) (a b inner : TermId) : Type 0 where
  pub widened : IsWidened terms b inner
  pub ones : (v : ℕ → ℕ → ℕ) → term_at v terms a ≡ 2 ^ width_of (tree_in terms inner) - 1

-- ---- divisions

-- the term is the quotient of the two
pub record IsQuotient (terms : List Term) (q a b : TermId) : Type 0 where
  pub left : width_of (tree_in terms a) ≡ width_of (tree_in terms q)
  pub right : width_of (tree_in terms b) ≡ width_of (tree_in terms q)
  pub says : (v : ℕ → ℕ → ℕ) → term_at v terms q ≡ quotient (width_of (tree_in terms q)) (term_at v terms a) (term_at v terms b)
  pub least : 1 + weight_of (tree_in terms a) + weight_of (tree_in terms b) ≤ weight_of (tree_in terms q)

-- the second is the quotient of the first by this, times this
pub record IsMultiple (terms : List Term) (a b divisor : TermId) : Type 0 where
  pub within : divisor.index < length terms
  pub left : width_of (tree_in terms a) ≡ width_of (tree_in terms b)
  pub right : width_of (tree_in terms divisor) ≡ width_of (tree_in terms b)
  pub says : (v : ℕ → ℕ → ℕ) → term_at v terms b
      ≡ (quotient (width_of (tree_in terms b)) (term_at v terms a) (term_at v terms divisor) * term_at v terms divisor) % 2 ^ width_of (tree_in terms b)
  pub least : 2 + weight_of (tree_in terms a) + weight_of (tree_in terms divisor) ≤ weight_of (tree_in terms b)

-- the first is below the second wherever this is not 0, and is no leaf
pub record IsReduced (terms : List Term) (a b : TermId) : Type 0 where
  pub says : (v : ℕ → ℕ → ℕ) → 1 ≤ term_at v terms b → term_at v terms a < term_at v terms b
  pub heavy : 2 ≤ weight_of (tree_in terms a)

-- the first is the quotient of this by the second, times the second
pub record IsWhole (terms : List Term) (a b whole : TermId) : Type 0 where
  pub within : whole.index < length terms
  pub multiple : IsMultiple terms whole a b

-- the term is the quotient of this by this number, which is not 0
pub record IsDivided (terms : List Term) (q : TermId) (d : Division) : Type 0 where
  pub within : d.a.index < length terms
  pub wide : width_of (tree_in terms d.a) ≡ width_of (tree_in terms q)
  pub nonzero : 1 ≤ d.by
  pub says : (v : ℕ → ℕ → ℕ) → term_at v terms q ≡ term_at v terms d.a / d.by
  pub least : 2 + weight_of (tree_in terms d.a) ≤ weight_of (tree_in terms q)

-- the term and this leave the same when they are divided by the number
pub record IsReducedFrom (terms : List Term) (r : TermId) (by : ℕ) (a : TermId) : Type 0 where
  pub within : a.index < length terms
  pub wide : width_of (tree_in terms a) ≡ width_of (tree_in terms r)
  pub says : (v : ℕ → ℕ → ℕ) → remainder (term_at v terms a) by ≡ remainder (term_at v terms r) by
  pub least : weight_of (tree_in terms a) ≤ weight_of (tree_in terms r)

-- ---- signs

-- the term is the sign of this one
pub record IsSign (terms : List Term) (c a : TermId) : Type 0 where
  pub within : a.index < length terms
  pub says : (v : ℕ → ℕ → ℕ) → bit_at v terms c ≡ is_negative (width_of (tree_in terms a)) (term_at v terms a)
  pub least : 1 + weight_of (tree_in terms a) ≤ weight_of (tree_in terms c)

-- the first is 0 without the second
pub record IsOpposite (terms : List Term) (a b : TermId) : Type 0 where
  pub alike : width_of (tree_in terms a) ≡ width_of (tree_in terms b)
  pub says : (v : ℕ → ℕ → ℕ) → term_at v terms a ≡ (2 ^ width_of (tree_in terms b) - term_at v terms b) % 2 ^ width_of (tree_in terms b)
  pub least : 2 + weight_of (tree_in terms b) ≤ weight_of (tree_in terms a)

-- the term is this magnitude or its opposite
pub record IsSigned (terms : List Term) (a size : TermId) : Type 0 where
  pub within : size.index < length terms
  pub alike : width_of (tree_in terms size) ≡ width_of (tree_in terms a)
  pub small : (v : ℕ → ℕ → ℕ) → term_at v terms size ≤ 2 ^ (width_of (tree_in terms a) - 1)
  pub says : (v : ℕ → ℕ → ℕ) → (term_at v terms a ≡ term_at v terms size)
      ⊎ (term_at v terms a ≡ (2 ^ width_of (tree_in terms a) - term_at v terms size) % 2 ^ width_of (tree_in terms a))
  pub least : weight_of (tree_in terms size) ≤ weight_of (tree_in terms a)

-- the choice is the magnitude of its first arm, of which the other is the opposite
pub record IsTurned (terms : List Term) (c a b : TermId) : Type 0 where
  pub alike : width_of (tree_in terms b) ≡ width_of (tree_in terms a)
  pub says : (v : ℕ → ℕ → ℕ) → cond (is_negative (width_of (tree_in terms a)) (term_at v terms a)) (term_at v terms b) (term_at v terms a)
      ≡ cond (bit_at v terms c) (term_at v terms a) (term_at v terms b)
  pub least : 1 + weight_of (tree_in terms a) ≤ weight_of (tree_in terms c)

-- the term is the first, or its opposite where the sign is true
pub record IsMagnitude (terms : List Term) (a sign size : TermId) : Type 0 where
  pub alike : width_of (tree_in terms size) ≡ width_of (tree_in terms a)
  pub says : (v : ℕ → ℕ → ℕ) → term_at v terms size
      ≡ cond (bit_at v terms sign) ((2 ^ width_of (tree_in terms a) - term_at v terms a) % 2 ^ width_of (tree_in terms a)) (term_at v terms a)

-- the first is the quotient of the magnitudes of a and b, of which the signs are s and t
pub record IsSizes (terms : List Term) (size s t a b : TermId) (d : SignedDivision) : Type 0 where
  pub sign : d.sign ≡ s
  pub within : (d.first.index < length terms) × (d.second.index < length terms)
  pub wide : (width_of (tree_in terms d.first) ≡ width_of (tree_in terms size)) × (width_of (tree_in terms d.second) ≡ width_of (tree_in terms size))
  pub first : IsMagnitude terms a s d.first
  pub second : IsMagnitude terms b t d.second
  pub says : (v : ℕ → ℕ → ℕ) → term_at v terms size ≡ quotient (width_of (tree_in terms size)) (term_at v terms d.first) (term_at v terms d.second)
  pub least : 1 + weight_of (tree_in terms d.first) + weight_of (tree_in terms d.second) ≤ weight_of (tree_in terms size)

-- the product of these magnitudes' quotient with the divisor, or its opposite where the sign is true
abbrev pub signed_multiple : (terms : List Term) (v : ℕ → ℕ → ℕ) → SignedDivision → ℕ → ℕ
signed_multiple terms v d width = cond (bit_at v terms d.sign)
    ((2 ^ width - (quotient width (term_at v terms d.first) (term_at v terms d.second) * term_at v terms d.second) % 2 ^ width) % 2 ^ width)
    ((quotient width (term_at v terms d.first) (term_at v terms d.second) * term_at v terms d.second) % 2 ^ width)

-- the first is the quotient of a by b, in two's complement
pub record IsSignedQuotient (terms : List Term) (q a b : TermId) (d : SignedDivision) : Type 0 where
  pub sign : IsTerm terms 1 d.sign
  pub left : IsTerm terms (width_of (tree_in terms q)) d.first
  pub right : IsTerm terms (width_of (tree_in terms q)) d.second
  pub first : IsMagnitude terms a d.sign d.first
  pub says : b.index < length terms → (v : ℕ → ℕ → ℕ) → (term_at v terms q * term_at v terms b) % 2 ^ width_of (tree_in terms q) ≡ signed_multiple terms v d (width_of (tree_in terms q))
  pub least : 5 + weight_of (tree_in terms d.sign) + 2 * (weight_of (tree_in terms d.first) + weight_of (tree_in terms d.second)) ≤ weight_of (tree_in terms q)

-- the second is the quotient of the first by some divisor, times it, in two's complement
pub record IsSignedMultiple (terms : List Term) (a b : TermId) (d : SignedDivision) : Type 0 where
  pub sign : IsTerm terms 1 d.sign
  pub left : IsTerm terms (width_of (tree_in terms b)) d.first
  pub right : IsTerm terms (width_of (tree_in terms b)) d.second
  pub first : IsMagnitude terms a d.sign d.first
  pub says : (v : ℕ → ℕ → ℕ) → term_at v terms b ≡ signed_multiple terms v d (width_of (tree_in terms b))
  pub least : 5 + weight_of (tree_in terms d.sign) + 2 * (weight_of (tree_in terms d.first) + weight_of (tree_in terms d.second)) ≤ weight_of (tree_in terms b)

-- ---- parts of terms

-- the bits from here on are those of the term, and are in it
pub record IsSamePart (terms : List Term) (a : TermId) (from width : ℕ) (inner : BitRange) : Type 0 where
  pub within : inner.a.index < length terms
  pub most : inner.from + width ≤ width_of (tree_in terms inner.a)
  pub says : (v : ℕ → ℕ → ℕ) → term_at v terms inner.a / 2 ^ inner.from % 2 ^ width ≡ term_at v terms a / 2 ^ from % 2 ^ width
  pub least : weight_of (tree_in terms inner.a) ≤ weight_of (tree_in terms a)

-- ---- choices

-- the term has the width of the other, its value where the condition is this, and at most as many nodes
pub record IsArm (terms : List Term) (c : TermId) (known : Bool) (a arm : TermId) : Type 0 where
  pub within : arm.index < length terms
  pub wide : width_of (tree_in terms arm) ≡ width_of (tree_in terms a)
  pub says : (v : ℕ → ℕ → ℕ) → bit_at v terms c ≡ known → term_at v terms arm ≡ term_at v terms a
  pub least : weight_of (tree_in terms arm) ≤ weight_of (tree_in terms a)

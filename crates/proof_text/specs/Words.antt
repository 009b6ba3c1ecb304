-- Words of a line: what reads as a number, a literal, a clause or a chain, and as a number after its name.
use Rattle.std.specs.Prelude.{ℕ, ◌≡◌, ◌<◌, ◌^◌, All, Contains, List, ◌∷◌, ◌++◌, Option, Some, None, codes}
use Rattle.std.specs.Fmt.{decimal}
use Rattle.std.specs.List.{flat_map}
use Rattle.proof_text.specs.Format.{IsSmall, spaced}

-- the parts of a text before and after the first of these bytes
pub record Parts (byte : ℕ) (text before after : List ℕ) : Type 0 where
  pub is : text ≡ before ++ byte ∷ after
  pub free : Contains before byte → ⊥

-- what is found fits and has this text, and nothing is found only where nothing that fits has it
abbrev pub IsRead : {A : Type 0} → (A → Type 0) → (A → List ℕ) → List ℕ → Option A → Type 0
IsRead Fits text_of text (Some a) = Fits a × (text ≡ text_of a)
IsRead {A} Fits text_of text None = (a : A) → Fits a → text ≡ text_of a → ⊥

-- the line begins with a name, the number after it and a space, and goes on with this rest
pub record IsNamed (name line : List ℕ) (n : ℕ) (rest : List ℕ) : Type 0 where
  pub small : n < 2 ^ 63
  pub is : line ≡ name ++ (spaced (decimal n) ++ rest)

-- the text of a chain, up to the 0
abbrev pub chain_text : List ℕ → List ℕ
chain_text chain = flat_map (λ n. spaced (decimal n)) chain ++ codes "0 "

abbrev pub IsChain : List ℕ → Type 0
IsChain chain = All (λ n. (0 < n) × IsSmall n) chain

-- the line doesn't begin with a chain
abbrev pub HasNoChain : List ℕ → Type 0
HasNoChain line = (chain rest : List ℕ) → IsChain chain → line ≡ chain_text chain ++ rest → ⊥

-- Spellings part by part, from the start: each part says what comes first, and then tests what
-- follows it. Where a part takes as many bytes as pass, what follows it in a spelling never begins
-- with such a byte.
use Rattle.std.specs.Prelude.{ℕ, List, [], ◌∷◌, Bool, true, false, ◌&&◌, ◌==◌, if◌then◌else◌}

-- no more bytes
abbrev pub nothing : List ℕ → Bool
nothing [] = true
nothing (b ∷ bs) = false

-- a byte that passes, and then the rest
abbrev pub one : (ℕ → Bool) → (List ℕ → Bool) → List ℕ → Bool
one p rest [] = false
one p rest (b ∷ bs) = p b && rest bs

-- this byte, and then the rest
abbrev pub byte : ℕ → (List ℕ → Bool) → List ℕ → Bool
byte wanted rest = one (λ b. b == wanted) rest

-- what follows the leading bytes that pass
abbrev pub behind : (ℕ → Bool) → List ℕ → List ℕ
behind p [] = []
behind p (b ∷ bs) = (if p b then behind p bs else b ∷ bs)

-- all leading bytes that pass, maybe none, and then the rest
abbrev pub many : (ℕ → Bool) → (List ℕ → Bool) → List ℕ → Bool
many p rest text = rest (behind p text)

-- all leading bytes that pass, at least one, and then the rest
abbrev pub some : (ℕ → Bool) → (List ℕ → Bool) → List ℕ → Bool
some p rest = one p (many p rest)

-- what follows the first byte if that passes, else all
abbrev pub behind_one : (ℕ → Bool) → List ℕ → List ℕ
behind_one p [] = []
behind_one p (b ∷ bs) = (if p b then bs else b ∷ bs)

-- an optional byte that passes, and then the rest
abbrev pub maybe : (ℕ → Bool) → (List ℕ → Bool) → List ℕ → Bool
maybe p rest text = rest (behind_one p text)

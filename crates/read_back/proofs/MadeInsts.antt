-- The instructions of a made function: each is an operation on two bytes that come before it.
use Rattle.read_back.proofs.Common.{◌≡◌, ℕ, zero, suc, ◌+◌, ◌/◌, ◌<◌, Bool, true, false, List, [], ◌∷◌, length, take, refl, ap, arith, ◌&&◌, ◌==◌, mod_below, Op, Inst, Binary, state_behind, drawn, made_op, eight, value_name, value, made_binary, made_insts}

-- the instruction of this number
pub record IsMade (i : ℕ) (inst : Inst) : Type 0 where
  pub op : Op
  pub left : ℕ
  pub right : ℕ
  pub left_before : left < i + 2
  pub right_before : right < i + 2
  pub is : inst ≡ Binary (value_name (i + 2)) op eight (value left) (value right)

-- instructions, the first of them with this number
abbrev pub AreMade : ℕ → List Inst → Type 0
AreMade i [] = Unit {0}
AreMade i (inst ∷ insts) = IsMade i inst × AreMade (i + 1) insts

binary_made : (b : Bool) (i o left right : ℕ) → left < i + 2 → right < i + 2
    → IsMade i (made_binary b i o left right)
binary_made true i o left right l r = record {
  op = made_op o;
  left = right;
  right = left;
  left_before = r;
  right_before = l;
  is = refl;
}
binary_made false i o left right l r = record {
  op = made_op o;
  left = left;
  right = right;
  left_before = l;
  right_before = r;
  is = refl;
}

below : (i x : ℕ) → drawn (i + 2) x < i + 2
below i x = mod_below (x / 65536) (i + 2) (omega arith)

pub insts-made : (in_target : Bool) (n i x : ℕ) → AreMade i (made_insts in_target n i x)
insts-made in_target zero i x = tt
insts-made in_target (suc n) i x = (
  binary_made (in_target && drawn 4 (state_behind 4 x) == 3) i (drawn 5 (state_behind 1 x))
      (drawn (i + 2) (state_behind 2 x)) (drawn (i + 2) (state_behind 3 x))
      (below i (state_behind 2 x)) (below i (state_behind 3 x)),
  insts-made in_target n (i + 1) (state_behind 4 x),
)

pub length-made : (in_target : Bool) (n i x : ℕ) → length (made_insts in_target n i x) ≡ n
length-made in_target zero i x = refl
length-made in_target (suc n) i x = ap suc (length-made in_target n (i + 1) (state_behind 4 x))

pub made-take : (n i : ℕ) (insts : List Inst) → AreMade i insts → AreMade i (take n insts)
made-take zero i insts h = tt
made-take (suc n) i [] h = tt
made-take (suc n) i (inst ∷ insts) h = (h.0, made-take n (i + 1) insts h.1)

-- Arguments: how many digits their code has, and zeros.
use Rattle.points.proofs.Common.{◌≡◌, ℕ, zero, suc, ◌+◌, ◌^◌, ◌<◌, ◌≤◌, List, [], ◌∷◌, ◌++◌, length, replicate, refl, ap, arith, slice_get, Some, zero-add, suc-add, pow_mono, pow_pos, IrType, Int, Parameter, BlockName, Null, Given, Local, Value, Num, Poison, Layout, no_blocks, number_of, BlockFits, ValueFits, ArgsFit, name_digit, value_code, args_code, args_number}
use Rattle.ir_tree.specs.declared.tree.IrType.TheVariants as type
use Rattle.ir_tree.specs.Pointers.{IsInteger, AreIntegers}
use Rattle.byte_block.specs.declared.value.Value.TheVariants as value
use Rattle.points.proofs.Order.{Digits}

-- ---- how many digits

abbrev pub type_digits : IrType → ℕ
type_digits (Int w) = 2
type_digits type.Ptr = 3

abbrev pub digits_of : List Parameter → ℕ
digits_of [] = 0
digits_of (p ∷ ps) = type_digits p.of_type + digits_of ps

pub name_small : (layout : Layout) (name : BlockName) → layout.blocks < 2 ^ 64 → BlockFits layout name → name_digit layout name < 2 ^ 64
name_small layout Null few fits = omega arith
name_small layout (Given i) few fits = (let most = fits.1 in omega (arith, few, most))
name_small layout (Local turn place) few fits = absurd fits

pub value_digits : (layout : Layout) (t : IrType) (v : Value) → layout.blocks < 2 ^ 64 → ValueFits layout t v → Digits (type_digits t) (value_code layout t v)
value_digits layout (Int w) (Num n) few fits = (omega arith, ((let most : 2 ^ w.bits ≤ 2 ^ 64 = pow_mono w.at_most_64 in omega (arith, most, fits)), tt))
value_digits layout (Int w) Poison few fits = (omega arith, (omega arith, tt))
value_digits layout (Int w) (value.Ptr p) few fits = absurd fits
value_digits layout type.Ptr (Num n) few fits = absurd fits
value_digits layout type.Ptr Poison few fits = (omega arith, (omega arith, (omega arith, tt)))
value_digits layout type.Ptr (value.Ptr p) few fits = (omega arith, (name_small layout p.block few fits.block, (fits.offset, tt)))

pub Digits-append : (n m : ℕ) (xs ys : List ℕ) → Digits n xs → Digits m ys → Digits (n + m) (xs ++ ys)
Digits-append zero m [] ys h h' = rw zero-add h'
Digits-append (suc n) m (x ∷ xs) ys h h' = rw suc-add (h.0, Digits-append n m xs ys h.1 h')
Digits-append zero m (x ∷ xs) ys h h' = absurd h
Digits-append (suc n) m [] ys h h' = absurd h

pub args_digits : (layout : Layout) (ps : List Parameter) (vs : List Value) → layout.blocks < 2 ^ 64 → ArgsFit layout ps vs → Digits (digits_of ps) (args_code layout ps vs)
args_digits layout [] [] few fits = tt
args_digits layout (p ∷ ps) (v ∷ vs) few fits = Digits-append (type_digits p.of_type) (digits_of ps) (value_code layout p.of_type v) (args_code layout ps vs) (value_digits layout p.of_type v few fits.0) (args_digits layout ps vs few fits.1)
args_digits layout [] (v ∷ vs) few fits = absurd fits
args_digits layout (p ∷ ps) [] few fits = absurd fits

-- the code of arguments of the parameters
pub record IsArgsCode (ps : List Parameter) (ds : List ℕ) : Type 0 where
  pub args : List Value
  pub is : ds ≡ args_code no_blocks ps args
  pub fits : ArgsFit no_blocks ps args

-- ---- zeros

pub record IsZeroAt (t : IrType) : Type 0 where
  pub code : value_code no_blocks t (Num 0) ≡ 0 ∷ 0 ∷ []
  pub fits : ValueFits no_blocks t (Num 0)

pub zero_at : (t : IrType) → IsInteger t → IsZeroAt t
zero_at (Int w) int = record { code = refl; fits = pow_pos w.bits }
zero_at type.Ptr int = absurd int

pub zeros_number : (ps : List Parameter) → AreIntegers ps → args_number no_blocks ps (replicate (length ps) (Num 0)) ≡ 0
unfolding number_of
zeros_number [] int = refl
zeros_number (p ∷ ps) int = let rest = zeros_number ps int.1 in rw (zero_at p.of_type int.0).code (omega (arith, rest))

pub zeros_fit : (ps : List Parameter) → AreIntegers ps → ArgsFit no_blocks ps (replicate (length ps) (Num 0))
zeros_fit [] int = tt
zeros_fit (p ∷ ps) int = ((zero_at p.of_type int.0).fits, zeros_fit ps int.1)

pub ArgsFit-length : (layout : Layout) (ps : List Parameter) (vs : List Value) → ArgsFit layout ps vs → length vs ≡ length ps
ArgsFit-length layout [] [] h = refl
ArgsFit-length layout (p ∷ ps) (v ∷ vs) h = ap suc (ArgsFit-length layout ps vs h.1)
ArgsFit-length layout [] (v ∷ vs) h = absurd h
ArgsFit-length layout (p ∷ ps) [] h = absurd h

pub none_past : {A : Type 0} (xs : List A) (k : ℕ) (x : A) → length xs ≤ k → slice_get xs k ≡ Some x → ⊥
none_past [] k x past e = cc
none_past (y ∷ ys) zero x past e = omega arith
none_past (y ∷ ys) (suc k) x past e = none_past ys k x (omega arith) e

-- ---- for integers the given blocks don't matter

pub record AnyBlocks (a b : Layout) (t : IrType) (v : Value) : Type 0 where
  pub fits : ValueFits b t v
  pub code : value_code a t v ≡ value_code b t v

any_value : (a b : Layout) (t : IrType) (v : Value) → IsInteger t → ValueFits a t v → AnyBlocks a b t v
any_value a b (Int w) (Num n) int fits = record { fits = fits; code = refl }
any_value a b (Int w) Poison int fits = record { fits = tt; code = refl }
any_value a b (Int w) (value.Ptr p) int fits = absurd fits
any_value a b type.Ptr v int fits = absurd int

pub any_blocks : (a b : Layout) (ps : List Parameter) (vs : List Value) → AreIntegers ps → ArgsFit a ps vs → ArgsFit b ps vs
any_blocks a b [] [] int fits = tt
any_blocks a b (p ∷ ps) (v ∷ vs) int fits = ((any_value a b p.of_type v int.0 fits.0).fits, any_blocks a b ps vs int.1 fits.1)
any_blocks a b [] (v ∷ vs) int fits = absurd fits
any_blocks a b (p ∷ ps) [] int fits = absurd fits

pub any_code : (a b : Layout) (ps : List Parameter) (vs : List Value) → AreIntegers ps → ArgsFit a ps vs → args_code a ps vs ≡ args_code b ps vs
any_code a b [] [] int fits = refl
any_code a b (p ∷ ps) (v ∷ vs) int fits = rw ((any_value a b p.of_type v int.0 fits.0).code, any_code a b ps vs int.1 fits.1) refl
any_code a b [] (v ∷ vs) int fits = absurd fits
any_code a b (p ∷ ps) [] int fits = absurd fits

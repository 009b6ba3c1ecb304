-- A made function, as it is written, is spellable.
use Rattle.read_back.proofs.Common.{◌≡◌, ℕ, zero, suc, ◌+◌, ◌<◌, ◌≤◌, ◌^◌, Bool, true, List, [], ◌∷◌, length, codes, refl, ap, arith, All, nat_lt, decimal, AllByRecursion, list_all, and_parts, ltb-true, false≢true, IsAscii-decimal, All-from_recursion, All-from_get_or, All-cons, Name, Inst}
use Rattle.ir_tree.specs.declared.name.Name.TheVariants as name
use Rattle.read_back.proofs.Spellable.{IsName, IsParameter, IsInst, AreInsts, IsSpellable}
use Rattle.read_back.proofs.MadeNames.{value_word}
use Rattle.read_back.proofs.MadeInsts.{IsMade, AreMade}
use Rattle.read_back.proofs.MadeWritten.{written_inst, written_insts, written_parameter, written_made}

-- ---- bytes

abbrev pub AreBytes : List ℕ → Type 0
AreBytes bs = All (λ (b : ℕ). b < 256) bs

abbrev pub are_bytes : List ℕ → Bool
are_bytes bs = list_all (λ (b : ℕ). nat_lt b 256) bs

pub each-byte : (bs : List ℕ) → are_bytes bs ≡ true → AllByRecursion (λ (b : ℕ). b < 256) bs
each-byte [] h = tt
each-byte (b ∷ bs) h = let e = and_parts (nat_lt b 256) (are_bytes bs) h in
    (ltb-true b 256 e.0, each-byte bs e.1)

-- of bytes that are written out
pub bytes-tested : (bs : List ℕ) → are_bytes bs ≡ true → AreBytes bs
bytes-tested bs h = All-from_recursion (λ (b : ℕ). b < 256) bs (each-byte bs h)

pub digits-bytes : (n : ℕ) → n < 2 ^ 64 → AreBytes (decimal n)
digits-bytes n small = All-from_get_or (λ (b : ℕ). b < 256) (decimal n) 0
    (λ k in'. let ascii = IsAscii-decimal n small k in omega (arith, ascii))

-- ---- names

pub word-name : (b n : ℕ) → b < 256 → n < 2 ^ 64 → IsName (name.Word (b ∷ decimal n))
word-name b n h small = All-cons (λ (c : ℕ). c < 256) b (decimal n) h (digits-bytes n small)

pub value-named : (l : ℕ) → l < 2 ^ 64 → IsName (value_word l)
value-named zero small = bytes-tested (codes "a") refl
value-named (suc zero) small = bytes-tested (codes "b") refl
value-named (suc (suc l)) small = word-name 114 l (omega arith) (omega (arith, small))

-- ---- the function

inst_spellable : (n i : ℕ) (inst : Inst) (h : IsMade i inst) → i < 2 ^ 63
    → IsInst n (written_inst i inst h)
inst_spellable n i inst h small = (
  word-name 114 i (omega arith) (omega (arith, small)),
  value-named h.left (omega (arith, small, h.left_before)),
  value-named h.right
      (omega (arith, small, h.right_before)),
)

insts_spellable : (n i : ℕ) (insts : List Inst) (h : AreMade i insts) → i + length insts < 2 ^ 63
    → AreInsts n (written_insts i insts h)
insts_spellable n i [] h small = tt
insts_spellable n i (inst ∷ insts) h small = (
  inst_spellable n i inst h.0 (omega (arith, small)),
  insts_spellable (n + 1) (i + 1) insts h.1 (omega (arith, small)),
)

length_written : (i : ℕ) (insts : List Inst) (h : AreMade i insts)
    → length (written_insts i insts h) ≡ length insts
length_written i [] h = refl
length_written i (inst ∷ insts) h = ap suc (length_written (i + 1) insts h.1)

parameter_spellable : (text : List ℕ) → AreBytes text → IsParameter (written_parameter text)
parameter_spellable text h = record { name = h; non_null = λ e. absurd (false≢true e) }

pub made-spellable : (n : Name) (insts : List Inst) (h : AreMade 0 insts) → IsName n
    → length insts ≤ 64 → IsSpellable (written_made n insts h)
made-spellable n insts h named few = record {
  name = named;
  few = omega arith;
  parameters = (
    parameter_spellable (codes "a") (bytes-tested (codes "a") refl),
    (parameter_spellable (codes "b") (bytes-tested (codes "b") refl), tt),
  );
  label = bytes-tested (codes "entry") refl;
  entry = record {
    phis = tt;
    insts = insts_spellable (0 + 0) 0 insts h (omega (arith, few));
    last = value-named (length insts + 1) (omega (arith, few));
  };
  others = omega (arith, few, length_written 0 insts h);
}

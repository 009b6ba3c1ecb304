-- A made function as it is written; numbering the names gives the function.
use Rattle.read_back.proofs.Common.{◌≡◌, ℕ, suc, ◌+◌, ◌<◌, ◌^◌, false, List, [], ◌∷◌, length, codes, Some, refl, sym, ap, ◌∙◌, arith, with_name, number_of, no_place, Name, Int, Op, Local, Inst, Binary, Block, Return, Function, WrittenName, WrittenIntType, WrittenType, WrittenOperand, WrittenParameter, WrittenInst, Value, WrittenFunction, places_of, Numbered, so, ◌>>=◌, each_in, binary_in, inst_in, typed_in, returned_in, parameter_in, block_in, blocks_in, parts_in, numbered, eight, value_name, value, byte_parameter, IsSameFunction, placed}
use Rattle.ir_tree.specs.declared.name.Name.TheVariants as name
use Rattle.ir_words.specs.declared.written.WrittenValue.TheVariants as written
use Rattle.ir_words.specs.declared.written.WrittenInst.TheVariants as line
use Rattle.ir_words.specs.declared.written.WrittenTerminator.TheVariants as end
use Rattle.read_back.proofs.MadeNames.{result_name, value_word, names_behind, value-number, value-known, result-number, result-new}
use Rattle.read_back.proofs.MadeInsts.{IsMade, AreMade}
use Rattle.read_back.proofs.ReadBackPlaces.{same-back}

-- ---- what is written

abbrev pub here : Name → WrittenName
here n = record { name = n; at = no_place }

abbrev pub byte : WrittenIntType
byte = record { width = eight; at = no_place }

abbrev pub byte_value : WrittenType
byte_value = record { of_type = Int eight; at = no_place }

abbrev pub written_value : ℕ → WrittenOperand
written_value l = record { value = written.Local (value_word l); at = no_place }

abbrev pub written_inst : (i : ℕ) (inst : Inst) → IsMade i inst → WrittenInst
written_inst i inst h = line.Binary (here (result_name i)) h.op byte (written_value h.left)
    (written_value h.right)

abbrev pub written_insts : (i : ℕ) (insts : List Inst) → AreMade i insts → List WrittenInst
written_insts i [] h = []
written_insts i (inst ∷ insts) h = written_inst i inst h.0 ∷ written_insts (i + 1) insts h.1

abbrev pub written_parameter : List ℕ → WrittenParameter
written_parameter text = record {
  of_type = byte_value;
  no_undef = false;
  non_null = false;
  name = Some (here (name.Word text));
}

abbrev pub written_made : Name → (insts : List Inst) → AreMade 0 insts → WrittenFunction
written_made n insts h = record {
  returns_no_undef = false;
  returns = record { of_type = Some (Int eight); at = no_place };
  name = here n;
  parameters = written_parameter (codes "a") ∷ written_parameter (codes "b") ∷ [];
  brace = no_place;
  label = Some (here (name.Word (codes "entry")));
  entry = record {
    phis = [];
    insts = written_insts 0 insts h;
    terminator = end.Return (Value (record {
      of_type = byte_value;
      operand = written_value (length insts + 1);
    }));
  };
  others = [];
}

-- ---- the function

abbrev pub plain_block : List Inst → Block
plain_block insts = record {
  label = 2;
  phis = [];
  insts = insts;
  terminator = Return (Some (record { of_type = Int eight; operand = value (length insts + 1) }));
}

abbrev pub plain_function : Name → List Inst → Function
plain_function n insts = record {
  name = n;
  returns = Some (Int eight);
  returns_no_undef = false;
  parameters = byte_parameter 0 ∷ byte_parameter 1 ∷ [];
  blocks = plain_block insts ∷ [];
  names = names_behind (length insts);
  places = [];
}

-- ---- numbers

binary_numbered : (names before between after : List Name) (into l r : Name) (op : Op) (a b c : ℕ)
    → number_of names into ≡ a → with_name names into ≡ before → number_of before l ≡ b
    → with_name before l ≡ between → number_of between r ≡ c → with_name between r ≡ after
    → binary_in names into op eight (written.Local l) (written.Local r)
    ≡ so (Binary a op eight (Local b) (Local c)) after
unfolding binary_in
binary_numbered names before between after into l r op a b c e1 e2 e3 e4 e5 e6 =
    rw (e1, e2, e3, e4, e5, e6) refl

inst_numbered : (i : ℕ) (inst : Inst) (h : IsMade i inst) → i + 1 < 2 ^ 64
    → inst_in (names_behind i) (written_inst i inst h) ≡ so inst (names_behind (i + 1))
inst_numbered i inst h small =
    let left : h.left < i + 1 + 2 = omega (arith, h.left_before) in
    let right : h.right < i + 1 + 2 = omega (arith, h.right_before) in
    binary_numbered (names_behind i) (names_behind (i + 1)) (names_behind (i + 1))
    (names_behind (i + 1)) (result_name i) (value_word h.left) (value_word h.right) h.op
    (value_name (i + 2)) (value_name h.left) (value_name h.right)
    (result-number i (omega (arith, small))) (result-new i (omega (arith, small)))
    (value-number (i + 1) h.left left small) (value-known (i + 1) h.left left small)
    (value-number (i + 1) h.right right small) (value-known (i + 1) h.right right small)
    ∙ ap (λ (j : Inst). so j (names_behind (i + 1))) (sym h.is)

insts_numbered : (i : ℕ) (insts : List Inst) (h : AreMade i insts) → i + length insts < 2 ^ 64
    → each_in inst_in (names_behind i) (written_insts i insts h)
    ≡ so insts (names_behind (i + length insts))
insts_numbered i [] h small =
    let e : i ≡ i + 0 = omega arith in
    ap (λ (n : ℕ). so [] (names_behind n)) e
insts_numbered i (inst ∷ insts) h small =
    let e : i + 1 + length insts ≡ i + suc (length insts) = omega arith in
    let others : List WrittenInst = written_insts (i + 1) insts h.1 in
    ap (λ (m : Numbered Inst). m >>= λ first before.
    each_in inst_in before others >>= λ rest after. so (first ∷ rest) after)
    (inst_numbered i inst h.0 (omega (arith, small)))
    ∙ ap (λ (m : Numbered (List Inst)). m >>= λ others after. so (inst ∷ others) after)
    (insts_numbered (i + 1) insts h.1 (omega (arith, small)))
    ∙ ap (λ (n : ℕ). so (inst ∷ insts) (names_behind n)) e

pub made-numbered : (n : Name) (insts : List Inst) (h : AreMade 0 insts) → length insts < 2 ^ 63
    → numbered (written_made n insts h)
    ≡ placed (plain_function n insts) (places_of (written_made n insts h))
unfolding numbered parts_in blocks_in block_in parameter_in returned_in typed_in
made-numbered n insts h small =
    let zero_first : 0 + length insts ≡ length insts = omega arith in
    let all : each_in inst_in (names_behind 0) (written_insts 0 insts h)
    ≡ so insts (names_behind (length insts)) =
    insts_numbered 0 insts h (omega (arith, small))
    ∙ ap (λ (k : ℕ). so insts (names_behind k)) zero_first in
    let few : length insts < 2 ^ 64 = omega (arith, small) in
    let number = value-number (length insts) (length insts + 1) (omega arith) few in
    let known = value-known (length insts) (length insts + 1) (omega arith) few in
    rw (all, number, known) refl

pub made-same : (n : Name) (insts : List Inst) (h : AreMade 0 insts) → length insts < 2 ^ 63
    → IsSameFunction (numbered (written_made n insts h)) (plain_function n insts)
made-same n insts h small =
    let f : Function = plain_function n insts in
    let is = made-numbered n insts h small in
    same-back f (numbered (written_made n insts h))
    (is ∙ ap (λ (g : Function). placed f g.places) (sym is))

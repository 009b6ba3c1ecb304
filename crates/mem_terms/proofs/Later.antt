-- What was said of terms is said of more of them.
use Rattle.std.proofs.Common.{ℕ, ◌≡◌, ◌+◌, ◌<◌, Bool, List, [], ◌∷◌, length, map, Option, Some, None, IfSome, refl, ap, sym, ◌∙◌, arith}
use Rattle.std.specs.Option.{option_map}
use Rattle.ir_tree.specs.declared.tree.IrType.{IrType}
use Rattle.ir_tree.specs.declared.tree.IrType.TheVariants as type
use Rattle.ir_tree.specs.declared.tree.Parameter.{Parameter}
use Rattle.points.specs.declared.point.Layout.{Layout}
use Rattle.points.specs.Run.{Run}
use Rattle.bv_terms.specs.declared.term.TermId.{TermId}
use Rattle.bv_terms.specs.declared.term.Term.{Term}
use Rattle.bv_terms.specs.Tree.{width_of, value_of, truth}
use Rattle.bv_terms.specs.Trees.{Keeps, Makes, Tests, IsTerm, term_at, bit_at}
use Rattle.mem_terms.specs.declared.integers.SymNumber.{SymNumber}
use Rattle.mem_terms.specs.declared.inputs.ArgTerms.{ArgTerms}
use Rattle.mem_terms.specs.declared.inputs.ArgTerms.TheVariants as arg
use Rattle.mem_terms.specs.declared.inputs.ByteTerms.{ByteTerms}
use Rattle.mem_terms.specs.declared.inputs.InputTerms.{InputTerms}
use Rattle.mem_terms.specs.declared.outcome.OutcomeTerms.{OutcomeTerms}
use Rattle.mem_terms.specs.declared.values.SymValue.{SymValue}
use Rattle.mem_terms.specs.declared.bytes.SymByte.{SymByte}
use Rattle.mem_terms.specs.declared.blocks.SymBlock.{SymBlock}
use Rattle.mem_terms.specs.Values.{Each, Reading, IsSymNumber, IsSymValue, AreSymValues, number_at, value_at, values_at}
use Rattle.mem_terms.specs.Memory.{IsSymByte, AreSymBytes, IsSymBlock, AreSymBlocks, AreGivenBlocks, IsAlways, SymFrame, byte_at, places_at, block_at, memory_at}
use Rattle.mem_terms.specs.Inputs.{IsArg, AreArgs, AreWords, IsByteTerms, IsBlockTerms, IsInput, arg_at, args_at, words_at, given_byte_at, given_block_at, given_blocks_at, input_at}
use Rattle.mem_terms.specs.Outcomes.{IsOutcome, Shows, outcome_at}
use Rattle.mem_terms.proofs.Eaches.{each-weaker, map-same}

pub keeps_trans : (a b c : List Term) → Keeps a b → Keeps b c → Keeps a c
keeps_trans a b c p q = record {
  longer = omega (arith, p.longer, q.longer);
  terms = λ i lt. q.terms i (omega (arith, p.longer)) ∙ p.terms i lt;
  kept = λ x lt. q.kept x (omega (arith, p.longer)) ∙ p.kept x lt;
  calm = q.calm ∙ p.calm;
}

pub keeps_self : (a : List Term) → Keeps a a
keeps_self a = record { longer = omega arith; terms = λ i lt. refl; kept = λ x lt. refl; calm = refl }

-- the contents of blocks are bytes
pub block_terms-bytes : (bytes : ℕ) (terms : List Term) (bs : List (List ByteTerms)) → Each (IsBlockTerms bytes terms) bs → Each (Each (IsByteTerms terms)) bs
block_terms-bytes bytes terms bs h = each-weaker (IsBlockTerms bytes terms) (Each (IsByteTerms terms)) bs (λ b i. i.are) h

module _ (old new : List Term) (k : Keeps old new) where
  pub term-later : (v : ℕ → ℕ → ℕ) (a : TermId) → a.index < length old → term_at v new a ≡ term_at v old a
  term-later v a lt = ap (value_of v) (k.kept a lt)

  pub bit-later : (v : ℕ → ℕ → ℕ) (a : TermId) → a.index < length old → bit_at v new a ≡ bit_at v old a
  bit-later v a lt = ap (λ t. truth (value_of v t)) (k.kept a lt)

  pub within-later : (a : TermId) → a.index < length old → a.index < length new
  within-later a lt = omega (arith, k.longer)

  pub is_term-later : (n : ℕ) (a : TermId) → IsTerm old n a → IsTerm new n a
  is_term-later n a h = record { within = within-later a h.within; wide = ap width_of (k.kept a h.within) ∙ h.wide }

  pub makes-later : (id : TermId) (n : ℕ) (x : (ℕ → ℕ → ℕ) → ℕ) → Makes old id n x → Makes new id n x
  makes-later id n x m = record { within = within-later id m.within; wide = ap width_of (k.kept id m.within) ∙ m.wide; says = λ v. term-later v id m.within ∙ m.says v }

  pub tests-later : (id : TermId) (x : (ℕ → ℕ → ℕ) → Bool) → Tests old id x → Tests new id x
  tests-later id x m = record { within = within-later id m.within; wide = ap width_of (k.kept id m.within) ∙ m.wide; says = λ v. bit-later v id m.within ∙ m.says v }

  -- ---- values

  pub sym_number-later : (s : SymNumber) → IsSymNumber old s → IsSymNumber new s
  sym_number-later s h = record { poison = is_term-later 1 s.poison h.poison; number = is_term-later 64 s.number h.number }

  pub number-later : (v : ℕ → ℕ → ℕ) (s : SymNumber) → IsSymNumber old s → number_at v new s ≡ number_at v old s
  unfolding number_at
  number-later v s h = rw (bit-later v s.poison h.poison.within, term-later v s.number h.number.within) refl

  pub sym_value-later : (s : SymValue) → IsSymValue old s → IsSymValue new s
  sym_value-later s h = record {
    poison = is_term-later 1 s.poison h.poison;
    is_pointer = is_term-later 1 s.is_pointer h.is_pointer;
    block = is_term-later 64 s.block h.block;
    number = is_term-later 64 s.number h.number;
  }

  pub sym_values-later : (ss : List SymValue) → AreSymValues old ss → AreSymValues new ss
  sym_values-later ss h = each-weaker (IsSymValue old) (IsSymValue new) ss sym_value-later h

  pub value-later : (r : Reading) (s : SymValue) → IsSymValue old s → value_at r new s ≡ value_at r old s
  unfolding value_at
  value-later r s h = rw (bit-later r.v s.poison h.poison.within, bit-later r.v s.is_pointer h.is_pointer.within, term-later r.v s.block h.block.within, term-later r.v s.number h.number.within) refl

  pub values-later : (r : Reading) (ss : List SymValue) → AreSymValues old ss → values_at r new ss ≡ values_at r old ss
  values-later r ss h = map-same (IsSymValue old) (value_at r new) (value_at r old) ss (value-later r) h

  -- ---- memory

  pub sym_byte-later : (b : SymByte) → IsSymByte old b → IsSymByte new b
  sym_byte-later b h = record {
    is_part = is_term-later 1 b.is_part h.is_part;
    mask = is_term-later 8 b.mask h.mask;
    number = is_term-later 8 b.number h.number;
    block = is_term-later 64 b.block h.block;
    offset = is_term-later 64 b.offset h.offset;
    part = is_term-later 3 b.part h.part;
  }

  pub sym_bytes-later : (bs : List SymByte) → AreSymBytes old bs → AreSymBytes new bs
  sym_bytes-later bs h = each-weaker (IsSymByte old) (IsSymByte new) bs sym_byte-later h

  pub byte-later : (r : Reading) (b : SymByte) → IsSymByte old b → byte_at r new b ≡ byte_at r old b
  unfolding byte_at
  byte-later r b h =
      rw (bit-later r.v b.is_part h.is_part.within, term-later r.v b.mask h.mask.within, term-later r.v b.number h.number.within, term-later r.v b.block h.block.within, term-later r.v b.offset h.offset.within, term-later r.v b.part h.part.within) refl

  pub places-later : (r : Reading) (bs : List SymByte) → AreSymBytes old bs → places_at r new bs ≡ places_at r old bs
  places-later r bs h = map-same (IsSymByte old) (byte_at r new) (byte_at r old) bs (byte-later r) h

  pub sym_block-later : (b : SymBlock) → IsSymBlock old b → IsSymBlock new b
  sym_block-later b h = record {
    numbered = h.numbered;
    exists = is_term-later 1 b.exists h.exists;
    size = is_term-later 64 b.size h.size;
    places = sym_bytes-later b.places h.places;
  }

  pub sym_blocks-later : (bs : List SymBlock) → AreSymBlocks old bs → AreSymBlocks new bs
  sym_blocks-later bs h = each-weaker (IsSymBlock old) (IsSymBlock new) bs sym_block-later h

  pub block-later : (r : Reading) (b : SymBlock) → IsSymBlock old b → block_at r new b ≡ block_at r old b
  unfolding block_at
  block-later r b h = rw (term-later r.v b.size h.size.within, places-later r b.places h.places) refl

  pub blocks-same : (r : Reading) (bs : List SymBlock) → AreSymBlocks old bs → map (block_at r new) bs ≡ map (block_at r old) bs
  blocks-same r bs h = map-same (IsSymBlock old) (block_at r new) (block_at r old) bs (block-later r) h

  pub memory-later : (r : Reading) (bs : List SymBlock) → AreSymBlocks old bs → memory_at r new bs ≡ memory_at r old bs
  unfolding memory_at
  memory-later r [] h = refl
  memory-later r (b ∷ bs) h = rw (bit-later r.v b.exists h.0.exists.within, block-later r b h.0, memory-later r bs h.1) refl

  -- ---- arguments and tapes

  pub arg-later : (type : IrType) (a : ArgTerms) → IsArg old type a → IsArg new type a
  arg-later (type.Int width) (arg.Int flag number) h = (is_term-later 1 flag h.0, is_term-later width.bits number h.1)
  arg-later type.Ptr (arg.Ptr flag block offset) h = (is_term-later 1 flag h.0, is_term-later 3 block h.1, is_term-later 64 offset h.2)
  arg-later (type.Int width) (arg.Ptr flag block offset) h = h
  arg-later type.Ptr (arg.Int flag number) h = h

  pub arg_at-later : (r : Reading) (type : IrType) (a : ArgTerms) → IsArg old type a → arg_at r new a ≡ arg_at r old a
  arg_at-later r (type.Int width) (arg.Int flag number) h = rw (bit-later r.v flag h.0.within, term-later r.v number h.1.within) refl
  arg_at-later r type.Ptr (arg.Ptr flag block offset) h = rw (bit-later r.v flag h.0.within, term-later r.v block h.1.within, term-later r.v offset h.2.within) refl
  arg_at-later r (type.Int width) (arg.Ptr flag block offset) h = absurd h
  arg_at-later r type.Ptr (arg.Int flag number) h = absurd h

  pub args-later : (ps : List Parameter) (args : List ArgTerms) → AreArgs old ps args → AreArgs new ps args
  args-later [] [] h = tt
  args-later (p ∷ ps) (a ∷ rest) h = (arg-later p.of_type a h.0, args-later ps rest h.1)
  args-later [] (a ∷ rest) h = h
  args-later (p ∷ ps) [] h = h

  pub args_at-later : (r : Reading) (ps : List Parameter) (args : List ArgTerms) → AreArgs old ps args → args_at r new args ≡ args_at r old args
  args_at-later r [] [] h = refl
  args_at-later r (p ∷ ps) (a ∷ rest) h = rw (arg_at-later r p.of_type a h.0, args_at-later r ps rest h.1) refl
  args_at-later r [] (a ∷ rest) h = absurd h
  args_at-later r (p ∷ ps) [] h = absurd h

  pub words-later : (words : List TermId) → AreWords old words → AreWords new words
  words-later words h = each-weaker (IsTerm old 64) (IsTerm new 64) words (is_term-later 64) h

  pub words_at-later : (v : ℕ → ℕ → ℕ) (words : List TermId) → AreWords old words → words_at v new words ≡ words_at v old words
  words_at-later v words h = map-same (IsTerm old 64) (term_at v new) (term_at v old) words (λ a t. term-later v a t.within) h

  -- ---- given blocks

  pub byte_terms-later : (b : ByteTerms) → IsByteTerms old b → IsByteTerms new b
  byte_terms-later b h = record {
    kind = is_term-later 2 b.kind h.kind;
    mask = is_term-later 8 b.mask h.mask;
    number = is_term-later 8 b.number h.number;
    block = is_term-later 3 b.block h.block;
    offset = is_term-later 64 b.offset h.offset;
    part = is_term-later 3 b.part h.part;
  }

  pub byte_terms_each-later : (bs : List ByteTerms) → Each (IsByteTerms old) bs → Each (IsByteTerms new) bs
  byte_terms_each-later bs h = each-weaker (IsByteTerms old) (IsByteTerms new) bs byte_terms-later h

  pub byte_lists-later : (bs : List (List ByteTerms)) → Each (Each (IsByteTerms old)) bs → Each (Each (IsByteTerms new)) bs
  byte_lists-later bs h = each-weaker (Each (IsByteTerms old)) (Each (IsByteTerms new)) bs byte_terms_each-later h

  pub block_terms-later : (bytes : ℕ) (places : List ByteTerms) → IsBlockTerms bytes old places → IsBlockTerms bytes new places
  block_terms-later bytes places h = record { count = h.count; are = byte_terms_each-later places h.are }

  pub block_terms_each-later : (bytes : ℕ) (bs : List (List ByteTerms)) → Each (IsBlockTerms bytes old) bs → Each (IsBlockTerms bytes new) bs
  block_terms_each-later bytes bs h = each-weaker (IsBlockTerms bytes old) (IsBlockTerms bytes new) bs (block_terms-later bytes) h

  pub sizes-later : (sizes : List TermId) → Each (IsTerm old 6) sizes → Each (IsTerm new 6) sizes
  sizes-later sizes h = each-weaker (IsTerm old 6) (IsTerm new 6) sizes (is_term-later 6) h

  pub is_input-later : (ps : List Parameter) (layout : Layout) (input : InputTerms) → IsInput ps layout old input → IsInput ps layout new input
  is_input-later ps layout input h = record {
    args = args-later ps input.args h.args;
    size_count = h.size_count;
    sizes = sizes-later input.sizes h.sizes;
    block_count = h.block_count;
    places = block_terms_each-later layout.bytes input.places h.places;
  }

  pub given_byte_at-later : (r : Reading) (b : ByteTerms) → IsByteTerms old b → given_byte_at r new b ≡ given_byte_at r old b
  unfolding given_byte_at
  given_byte_at-later r b h =
      rw (term-later r.v b.kind h.kind.within, term-later r.v b.mask h.mask.within, term-later r.v b.number h.number.within, term-later r.v b.block h.block.within, term-later r.v b.offset h.offset.within, term-later r.v b.part h.part.within) refl

  pub given_bytes_at-later : (r : Reading) (bs : List ByteTerms) → Each (IsByteTerms old) bs → map (given_byte_at r new) bs ≡ map (given_byte_at r old) bs
  given_bytes_at-later r bs h = map-same (IsByteTerms old) (given_byte_at r new) (given_byte_at r old) bs (given_byte_at-later r) h

  pub given_block_at-later : (r : Reading) (n : ℕ) (size : TermId) (places : List ByteTerms) → IsTerm old 6 size → Each (IsByteTerms old) places → given_block_at r new n size places ≡ given_block_at r old n size places
  given_block_at-later r n size places hs hp = rw (term-later r.v size hs.within, given_bytes_at-later r places hp) refl

  pub given_blocks_at-later : (r : Reading) (n : ℕ) (sizes : List TermId) (places : List (List ByteTerms)) → Each (IsTerm old 6) sizes → Each (Each (IsByteTerms old)) places
      → given_blocks_at r new n sizes places ≡ given_blocks_at r old n sizes places
  given_blocks_at-later r n [] places hs hp = refl
  given_blocks_at-later r n (size ∷ sizes) [] hs hp = refl
  given_blocks_at-later r n (size ∷ sizes) (places ∷ rest) hs hp = rw (given_block_at-later r n size places hs.0 hp.0, given_blocks_at-later r (n + 1) sizes rest hs.1 hp.1) refl

  pub input_at-later : (r : Reading) (ps : List Parameter) (layout : Layout) (input : InputTerms) → IsInput ps layout old input → input_at r new input ≡ input_at r old input
  input_at-later r ps layout input h = rw (args_at-later r ps input.args h.args, given_blocks_at-later r 1 input.sizes input.places h.sizes (block_terms-bytes layout.bytes old input.places h.places)) refl

  pub always-later : (b : SymBlock) → IsSymBlock old b → IsAlways old b → IsAlways new b
  always-later b h a v = bit-later v b.exists h.exists.within ∙ a v

  pub always_each-later : (bs : List SymBlock) → AreSymBlocks old bs → Each (IsAlways old) bs → Each (IsAlways new) bs
  always_each-later [] h a = tt
  always_each-later (b ∷ bs) h a = (always-later b h.0 a.0, always_each-later bs h.1 a.1)

  pub given_blocks-later : (known : List SymFrame) (bs : List SymBlock) → AreGivenBlocks known old bs → AreGivenBlocks known new bs
  given_blocks-later known bs h = record { are = sym_blocks-later bs h.are; always = always_each-later bs h.are h.always; frames = h.frames }

  -- ---- outcomes

  some-later : (o : Option SymValue) → IfSome o (IsSymValue old) → IfSome o (IsSymValue new)
  some-later None h = tt
  some-later (Some s) h = sym_value-later s h

  option-later : (r : Reading) (o : Option SymValue) → IfSome o (IsSymValue old) → option_map (value_at r new) o ≡ option_map (value_at r old) o
  option-later r None h = refl
  option-later r (Some s) h = ap Some (value-later r s h)

  pub is_outcome-later : (o : OutcomeTerms) → IsOutcome old o → IsOutcome new o
  is_outcome-later o h = record {
    ub = is_term-later 1 o.ub h.ub;
    beyond = is_term-later 1 o.beyond h.beyond;
    value = some-later o.value h.value;
    blocks = sym_blocks-later o.blocks h.blocks;
    always = always_each-later o.blocks h.blocks h.always;
    read = is_term-later 64 o.read h.read;
    plain = is_term-later 1 o.plain h.plain;
  }

  pub outcome-later : (r : Reading) (o : OutcomeTerms) → IsOutcome old o → outcome_at r new o ≡ outcome_at r old o
  outcome-later r o h = rw (bit-later r.v o.ub h.ub.within, bit-later r.v o.beyond h.beyond.within, option-later r o.value h.value, memory-later r o.blocks h.blocks) refl

  pub shows-later : (r : Reading) (tape : List ℕ) (run : Run) (o : OutcomeTerms) → IsOutcome old o → Shows r old tape run o → Shows r new tape run o
  shows-later r tape run o h s =
      let same = bit-later r.v o.plain h.plain.within in
      record {
        outcome = outcome-later r o h ∙ s.outcome;
        read = term-later r.v o.read h.read.within ∙ s.read;
        plain = (λ e. s.plain.0 (sym same ∙ e), λ p. same ∙ s.plain.1 p);
      }

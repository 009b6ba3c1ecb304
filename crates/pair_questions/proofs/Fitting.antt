-- The numbers of a point's code, and the words of a tape, have the widths that they are asked for with.
use Rattle.pair_questions.proofs.Common.{◌≡◌, ℕ, zero, suc, ◌+◌, ◌^◌, ◌<◌, ◌≤◌, nat_eq, if◌then◌else◌, List, [], ◌∷◌, ◌++◌, length, replicate, sym, subst, arith, append_assoc, flat_map, IrType, Int, Parameter, Value, Byte, MemoryBlock, Layout, Bounds, Point, Shape, RunPair, layout_of, ArgsFit, BlocksFit, ByteFits, BytesFit, IsOfShape, ValueFits, WordsFit, args_code, byte_code, code_of, places_code, value_code, need_of, widest_choice, IsPoint, blocks_count, sizes_of, AreWidths, Fits, AreSmall, args_widths, blocks_widths, places_widths, point_widths, tape_widths, value_widths, IsShapeOf}
use Rattle.std.proofs.Math.Dec.{eqb-suc-zero}
use Rattle.std.proofs.Math.Pow.{pow_mono}
use Rattle.ir_tree.specs.declared.tree.IrType.TheVariants as type
use Rattle.byte_block.specs.declared.value.Value.TheVariants as value
use Rattle.byte_block.specs.declared.value.Byte.TheVariants as byte
use Rattle.points.proofs.ByteOrder.{name_at_most}

-- ---- widths

narrow-append : (vs ws : List ℕ) → AreWidths vs → AreWidths ws → AreWidths (vs ++ ws)
narrow-append [] ws p q = q
narrow-append (v ∷ vs) ws p q = (p.0, narrow-append vs ws p.1 q)

same-narrow : (n w : ℕ) → w ≤ 64 → AreWidths (replicate n w)
same-narrow zero w le = tt
same-narrow (suc n) w le = (le, same-narrow n w le)

value-narrow : (t : IrType) → AreWidths (value_widths t)
value-narrow (Int w) = (omega arith, (w.at_most_64, tt))
value-narrow type.Ptr = (omega arith, (omega arith, (omega arith, tt)))

args-narrow : (ps : List Parameter) → AreWidths (args_widths ps)
args-narrow [] = tt
args-narrow (p ∷ ps) = narrow-append (value_widths p.of_type) (args_widths ps) (value-narrow p.of_type) (args-narrow ps)

places-narrow : (n : ℕ) → AreWidths (places_widths n)
places-narrow zero = tt
places-narrow (suc n) = (omega arith, (omega arith, (omega arith, (omega arith, (omega arith, (omega arith, places-narrow n))))))

blocks-narrow : (layout : Layout) (n : ℕ) → AreWidths (blocks_widths layout n)
blocks-narrow layout zero = tt
blocks-narrow layout (suc n) = narrow-append (places_widths layout.bytes) (blocks_widths layout n) (places-narrow layout.bytes) (blocks-narrow layout n)

pub point_narrow : (pair : RunPair) (bounds : Bounds) → AreWidths (point_widths pair bounds)
point_narrow pair bounds =
    let words = same-narrow (need_of bounds.turns pair.target) 64 (omega arith) in
    let places = narrow-append (blocks_widths (layout_of pair bounds) bounds.blocks) (replicate (need_of bounds.turns pair.target) 64) (blocks-narrow (layout_of pair bounds) bounds.blocks) words in
    let sizes = narrow-append (replicate bounds.blocks 6) (blocks_widths (layout_of pair bounds) bounds.blocks ++ replicate (need_of bounds.turns pair.target) 64) (same-narrow bounds.blocks 6 (omega arith)) places in
    narrow-append (args_widths pair.target.parameters) (replicate bounds.blocks 6 ++ (blocks_widths (layout_of pair bounds) bounds.blocks ++ replicate (need_of bounds.turns pair.target) 64)) (args-narrow pair.target.parameters) sizes

pub tape_narrow : (pair : RunPair) (bounds : Bounds) → AreWidths (tape_widths pair bounds)
tape_narrow pair bounds = same-narrow (need_of bounds.turns pair.source) 64 (omega arith)

-- ---- numbers

fits-append : (vs ws ms ns : List ℕ) → Fits vs ms → Fits ws ns → Fits (vs ++ ws) (ms ++ ns)
fits-append [] ws [] ns f g = g
fits-append (v ∷ vs) ws (m ∷ ms) ns f g = (f.0, fits-append vs ws ms ns f.1 g)
fits-append [] ws (m ∷ ms) ns f g = absurd f
fits-append (v ∷ vs) ws [] ns f g = absurd f

below_wider : (n a b : ℕ) → a ≤ b → n < 2 ^ a → n < 2 ^ b
below_wider n a b h less = let most : 2 ^ a ≤ 2 ^ b = pow_mono h in omega (arith, most, less)

pub words_fit : (width n : ℕ) (ws : List ℕ) → width ≤ 64 → WordsFit width n ws → Fits (replicate n 64) ws
words_fit width zero [] narrow fits = tt
words_fit width (suc n) (w ∷ ws) narrow fits = (below_wider w width 64 narrow fits.0, words_fit width n ws narrow fits.1)
words_fit width zero (w ∷ ws) narrow fits = absurd fits
words_fit width (suc n) [] narrow fits = absurd fits

pub fit_words : (n : ℕ) (ws : List ℕ) → Fits (replicate n 64) ws → WordsFit 64 n ws
fit_words zero [] fits = tt
fit_words (suc n) (w ∷ ws) fits = (fits.0, fit_words n ws fits.1)
fit_words zero (w ∷ ws) fits = absurd fits
fit_words (suc n) [] fits = absurd fits

-- ---- the numbers of a code

value-fits : (layout : Layout) (t : IrType) (v : Value) → layout.blocks ≤ 4 → ValueFits layout t v → Fits (value_widths t) (value_code layout t v)
value-fits layout (Int w) (value.Num n) few fits = (omega arith, (fits, tt))
value-fits layout (Int w) value.Poison few fits = (omega arith, (below_wider 0 0 w.bits (omega arith) (omega arith), tt))
value-fits layout (Int w) (value.Ptr p) few fits = absurd fits
value-fits layout type.Ptr (value.Num n) few fits = absurd fits
value-fits layout type.Ptr value.Poison few fits = (omega arith, (omega arith, (omega arith, tt)))
value-fits layout type.Ptr (value.Ptr p) few fits = (omega arith, (omega (arith, few, name_at_most layout p.block fits.block), (fits.offset, tt)))

args-fit : (layout : Layout) (ps : List Parameter) (vs : List Value) → layout.blocks ≤ 4 → ArgsFit layout ps vs → Fits (args_widths ps) (args_code layout ps vs)
args-fit layout [] [] few fits = tt
args-fit layout (p ∷ ps) (v ∷ vs) few fits =
    fits-append (value_widths p.of_type) (args_widths ps) (value_code layout p.of_type v) (args_code layout ps vs) (value-fits layout p.of_type v few fits.0) (args-fit layout ps vs few fits.1)
args-fit layout [] (v ∷ vs) few fits = absurd fits
args-fit layout (p ∷ ps) [] few fits = absurd fits

sizes-fit : (layout : Layout) (number : ℕ) (bs : List MemoryBlock) → layout.bytes ≤ 32 → BlocksFit layout number bs → Fits (replicate (length bs) 6) (sizes_of bs)
sizes-fit layout number [] short fits = tt
sizes-fit layout number (b ∷ bs) short fits = (omega (arith, short, fits.0.small), sizes-fit layout (number + 1) bs short fits.1)

kind-fits : (m : ℕ) → (if nat_eq m 0 then 0 else 2) < 2 ^ 2
kind-fits zero = omega arith
kind-fits (suc m) = rw (eqb-suc-zero m) (omega arith)

byte-fits : (layout : Layout) (b : Byte) → layout.blocks ≤ 4 → ByteFits layout b → Fits (places_widths 1) (byte_code layout b)
byte-fits layout (byte.Bits n m) few fits = (kind-fits m, (fits.1, (fits.0, (omega arith, (omega arith, (omega arith, tt))))))
byte-fits layout (byte.Part p i) few fits = (omega arith, (omega arith, (omega arith, (omega (arith, few, name_at_most layout p.block fits.0.block), (fits.0.offset, (omega (arith, fits.1), tt))))))

bytes-fit : (layout : Layout) (bs : List Byte) → layout.blocks ≤ 4 → BytesFit layout bs → Fits (places_widths (length bs)) (flat_map (byte_code layout) bs)
bytes-fit layout [] few fits = tt
bytes-fit layout (b ∷ bs) few fits = fits-append (places_widths 1) (places_widths (length bs)) (byte_code layout b) (flat_map (byte_code layout) bs) (byte-fits layout b few fits.0) (bytes-fit layout bs few fits.1)

blocks-fit : (layout : Layout) (number : ℕ) (bs : List MemoryBlock) → layout.blocks ≤ 4 → BlocksFit layout number bs → Fits (blocks_widths layout (length bs)) (flat_map (places_code layout) bs)
blocks-fit layout number [] few fits = tt
blocks-fit layout number (b ∷ bs) few fits =
    let here : Fits (places_widths layout.bytes) (places_code layout b) = subst (λ n. Fits (places_widths n) (places_code layout b)) fits.0.room (bytes-fit layout b.places few fits.0.fit) in
    fits-append (places_widths layout.bytes) (blocks_widths layout (length bs)) (places_code layout b) (flat_map (places_code layout) bs) here (blocks-fit layout (number + 1) bs few fits.1)

-- ---- a point

module _ (pair : RunPair) (bounds : Bounds) (s : Shape) (is : IsShapeOf pair bounds s) where
  pub of_shape : (p : Point) → IsPoint pair bounds p → IsOfShape s p
  of_shape p h = record {
    args = subst (λ (y : Layout). ArgsFit y s.parameters p.input.args) (sym is.layout) (subst (λ (ps : List Parameter). ArgsFit (layout_of pair bounds) ps p.input.args) (sym is.parameters) h.args);
    given = subst (λ (y : Layout). BlocksFit y 1 p.input.blocks) (sym is.layout) h.given;
    tape = subst (λ w. WordsFit w s.words p.tape) (sym is.word_width) (subst (λ n. WordsFit (widest_choice pair.target) n p.tape) (sym is.words) h.tape);
  }

  -- a point of the shape
  pub code_fits : AreSmall bounds → (p : Point) → ArgsFit (layout_of pair bounds) pair.target.parameters p.input.args → BlocksFit (layout_of pair bounds) 1 p.input.blocks
      → WordsFit (widest_choice pair.target) (need_of bounds.turns pair.target) p.tape → Fits (point_widths pair bounds) (code_of (layout_of pair bounds) pair.target.parameters p)
  code_fits small p args given tape =
      let bs = p.input.blocks in
      let need = need_of bounds.turns pair.target in
      let count = blocks_count (layout_of pair bounds) bs given in
      let narrow : widest_choice pair.target ≤ 64 = subst (λ w. w ≤ 64) is.word_width s.word_width.at_most_64 in
      let sizes : Fits (replicate bounds.blocks 6) (sizes_of bs) = subst (λ n. Fits (replicate n 6) (sizes_of bs)) count (sizes-fit (layout_of pair bounds) 1 bs small.bytes given) in
      let places : Fits (blocks_widths (layout_of pair bounds) bounds.blocks) (flat_map (places_code (layout_of pair bounds)) bs) =
      subst (λ n. Fits (blocks_widths (layout_of pair bounds) n) (flat_map (places_code (layout_of pair bounds)) bs)) count (blocks-fit (layout_of pair bounds) 1 bs small.blocks given) in
      let words : Fits (replicate need 64) p.tape = words_fit (widest_choice pair.target) need p.tape narrow tape in
      let behind = fits-append (blocks_widths (layout_of pair bounds) bounds.blocks) (replicate need 64) (flat_map (places_code (layout_of pair bounds)) bs) p.tape places words in
      let rest = fits-append (replicate bounds.blocks 6) (blocks_widths (layout_of pair bounds) bounds.blocks ++ replicate need 64) (sizes_of bs) (flat_map (places_code (layout_of pair bounds)) bs ++ p.tape) sizes behind in
      let regroup : sizes_of bs ++ (flat_map (places_code (layout_of pair bounds)) bs ++ p.tape) ≡ (sizes_of bs ++ flat_map (places_code (layout_of pair bounds)) bs) ++ p.tape = sym (append_assoc (sizes_of bs) (flat_map (places_code (layout_of pair bounds)) bs) p.tape) in
      fits-append (args_widths pair.target.parameters) (replicate bounds.blocks 6 ++ (blocks_widths (layout_of pair bounds) bounds.blocks ++ replicate need 64))
      (args_code (layout_of pair bounds) pair.target.parameters p.input.args) ((sizes_of bs ++ flat_map (places_code (layout_of pair bounds)) bs) ++ p.tape)
      (args-fit (layout_of pair bounds) pair.target.parameters p.input.args small.blocks args)
      (subst (λ (ns : List ℕ). Fits (replicate bounds.blocks 6 ++ (blocks_widths (layout_of pair bounds) bounds.blocks ++ replicate need 64)) ns) regroup rest)

  pub point_fits : AreSmall bounds → (p : Point) → IsPoint pair bounds p → Fits (point_widths pair bounds) (code_of (layout_of pair bounds) pair.target.parameters p)
  point_fits small p h = code_fits small p h.args h.given h.tape

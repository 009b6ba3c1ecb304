-- The goals of the two questions are true exactly on their answers.
use Rattle.pair_questions.proofs.Common.{ℕ, ◌≡◌, ◌↔◌, Bool, true, false, not, ◌&&◌, ◌||◌, List, [], ◌∷◌, ◌++◌, length, append-nil, refl, ap, sym, subst, ◌∙◌, flat_map, eqb-true, IrType, Int, Parameter, Function, Layout, Bounds, Input, Point, Shape, Outcome, RunPair, same_types, same_return, same_signature, layout_of, WordsFit, IsOfShape, code_of, IsCode, covers, some_covers, is_covered, is_refined, run_of, IsPlain, need_of, IsPoint, codes_tell_points, TermId, Term, AreInRange, IsTerm, Keeps, Tests, bit_at, term_at, ArgTerms, ByteTerms, InputTerms, TapeTerms, OutcomeTerms, Each, reading, IsArg, AreArgs, AreWords, IsInput, IsByteTerms, IsBlockTerms, input_at, words_at, Shows, map-same, keeps_trans, term-later, input_at-later, words_at-later, outcome-later, Decides, IsInputOf, IsTapeOf, arg_numbers, byte_numbers, block_numbers, numbers_at, input_in, none_allows, outcome_in, IsCovering, IsMissed, integers, integers_at, IsShapeOf, IsOfTarget, and_from, not-true, not_from_false}
use Rattle.ir_tree.specs.declared.tree.IrType.TheVariants.{Ptr}
use Rattle.ir_tree.specs.Sites.{is_same_type}
use Rattle.mem_terms.specs.declared.inputs.ArgTerms.TheVariants as arg
use Rattle.mem_terms.proofs.Bits.{term-below}
use Rattle.pair_questions.proofs.Decoded.{decoded, integers_decoded}

pub and_left : (a b : Bool) → (a && b) ≡ true → a ≡ true
and_left true b h = refl
and_left false b h = h

pub and_right : (a b : Bool) → (a && b) ≡ true → b ≡ true
and_right true b h = h
and_right false b h = absurd (let x : ⊥ = cc in x)

two : {A B C : Type 0} (f : A → B → C) {x x' : A} {y y' : B} → x ≡ x' → y ≡ y' → f x y ≡ f x' y'
two f e g = cc

three : {A B C D : Type 0} (f : A → B → C → D) {x x' : A} {y y' : B} {z z' : C} → x ≡ x' → y ≡ y' → z ≡ z' → f x y z ≡ f x' y' z'
three f e g h = cc

-- ---- arguments of both functions

arg_alike : (terms : List Term) (t u : IrType) (a : ArgTerms) → is_same_type t u ≡ true → IsArg terms u a → IsArg terms t a
arg_alike terms (Int v) (Int w) (arg.Int flag number) e h = (h.0, subst (λ n. IsTerm terms n number) (sym (eqb-true v.bits w.bits e)) h.1)
arg_alike terms (Int v) (Int w) (arg.Ptr flag block offset) e h = absurd h
arg_alike terms (Int v) Ptr a e h = absurd (let z : ⊥ = cc in z)
arg_alike terms Ptr (Int w) a e h = absurd (let z : ⊥ = cc in z)
arg_alike terms Ptr Ptr a e h = h

args_alike : (terms : List Term) (ps qs : List Parameter) (args : List ArgTerms) → same_types ps qs ≡ true → AreArgs terms qs args → AreArgs terms ps args
args_alike terms [] [] args e h = h
args_alike terms (p ∷ ps) (q ∷ qs) (a ∷ rest) e h = (
  arg_alike terms p.of_type q.of_type a (and_left (is_same_type p.of_type q.of_type) (same_types ps qs) e) h.0,
  args_alike terms ps qs rest (and_right (is_same_type p.of_type q.of_type) (same_types ps qs) e) h.1,
)
args_alike terms (p ∷ ps) (q ∷ qs) [] e h = absurd h
args_alike terms [] (q ∷ qs) args e h = absurd (let z : ⊥ = cc in z)
args_alike terms (p ∷ ps) [] args e h = absurd (let z : ⊥ = cc in z)

-- an input of the target is one of the source
pub source_input : (terms : List Term) (f g : Function) (layout : Layout) (input : InputTerms) → same_signature f g ≡ true → IsInput g.parameters layout terms input → IsInput f.parameters layout terms input
source_input terms f g layout input e h = record {
  args = args_alike terms f.parameters g.parameters input.args (and_right (same_return f.returns g.returns) (same_types f.parameters g.parameters) e) h.args;
  size_count = h.size_count;
  sizes = h.sizes;
  block_count = h.block_count;
  places = h.places;
}

-- an input of the shape is one of the target
pub shape_input : (pair : RunPair) (bounds : Bounds) (s : Shape) (terms : List Term) (input : InputTerms) → IsShapeOf pair bounds s → IsInputOf s terms input → IsInput pair.target.parameters (layout_of pair bounds) terms input
shape_input pair bounds s terms input is h = record {
  args = subst (λ (ps : List Parameter). AreArgs terms ps input.args) is.parameters h.args;
  size_count = h.size_count ∙ ap (λ (y : Layout). y.blocks) is.layout;
  sizes = h.sizes;
  block_count = h.block_count ∙ ap (λ (y : Layout). y.blocks) is.layout;
  places = subst (λ (y : Layout). Each (IsBlockTerms y.bytes terms) input.places) is.layout h.places;
}

-- ---- numbers stay

arg-later : (old new : List Term) (k : Keeps old new) (t : IrType) (a : ArgTerms) → IsArg old t a → (v : ℕ → ℕ → ℕ) → arg_numbers v new a ≡ arg_numbers v old a
arg-later old new k (Int w) (arg.Int flag number) h v = rw (term-later old new k v flag h.0.within, term-later old new k v number h.1.within) refl
arg-later old new k Ptr (arg.Ptr flag block offset) h v = rw (term-later old new k v flag h.0.within, term-later old new k v block h.1.within, term-later old new k v offset h.2.within) refl
arg-later old new k (Int w) (arg.Ptr flag block offset) h v = absurd h
arg-later old new k Ptr (arg.Int flag number) h v = absurd h

args-later : (old new : List Term) (k : Keeps old new) (ps : List Parameter) (args : List ArgTerms) → AreArgs old ps args → (v : ℕ → ℕ → ℕ) → flat_map (arg_numbers v new) args ≡ flat_map (arg_numbers v old) args
args-later old new k [] [] h v = refl
args-later old new k (p ∷ ps) (a ∷ rest) h v = two (λ (a b : List ℕ). a ++ b) (arg-later old new k p.of_type a h.0 v) (args-later old new k ps rest h.1 v)
args-later old new k [] (a ∷ rest) h v = absurd h
args-later old new k (p ∷ ps) [] h v = absurd h

byte-later : (old new : List Term) (k : Keeps old new) (b : ByteTerms) → IsByteTerms old b → (v : ℕ → ℕ → ℕ) → byte_numbers v new b ≡ byte_numbers v old b
byte-later old new k b h v =
    rw (
      term-later old new k v b.kind h.kind.within,
      term-later old new k v b.mask h.mask.within,
      term-later old new k v b.number h.number.within,
      term-later old new k v b.block h.block.within,
      term-later old new k v b.offset h.offset.within,
      term-later old new k v b.part h.part.within,
    ) refl

block-later : (old new : List Term) (k : Keeps old new) (bs : List ByteTerms) → Each (IsByteTerms old) bs → (v : ℕ → ℕ → ℕ) → block_numbers v new bs ≡ block_numbers v old bs
block-later old new k [] h v = refl
block-later old new k (b ∷ bs) h v = two (λ (a b : List ℕ). a ++ b) (byte-later old new k b h.0 v) (block-later old new k bs h.1 v)

blocks-later : (old new : List Term) (k : Keeps old new) (bytes : ℕ) (xs : List (List ByteTerms)) → Each (IsBlockTerms bytes old) xs → (v : ℕ → ℕ → ℕ) → flat_map (block_numbers v new) xs ≡ flat_map (block_numbers v old) xs
blocks-later old new k bytes [] h v = refl
blocks-later old new k bytes (x ∷ xs) h v = two (λ (a b : List ℕ). a ++ b) (block-later old new k x h.0.are v) (blocks-later old new k bytes xs h.1 v)

pub numbers-later : (old new : List Term) (k : Keeps old new) (s : Shape) (input : InputTerms) (tape : TapeTerms) → IsInputOf s old input → IsTapeOf s old tape → (v : ℕ → ℕ → ℕ) → numbers_at v new input tape ≡ numbers_at v old input tape
numbers-later old new k s input tape h h' v =
    rw (
      args-later old new k s.parameters input.args h.args v,
      map-same (IsTerm old 6) (term_at v new) (term_at v old) input.sizes (λ a t. term-later old new k v a t.within) h.sizes,
      blocks-later old new k s.layout.bytes input.places h.places v,
      words_at-later old new k v tape.words h'.words,
    ) refl

-- ---- what none of the tapes allows isn't covered

not_either : (x r s : Bool) → r ≡ not s → (not x && r) ≡ not (x || s)
not_either true r s e = refl
not_either false r s e = e

pub none_is : (pair : RunPair) (bounds : Bounds) (p : Point) (tapes : List (List ℕ)) → none_allows pair.source bounds p.input (run_of pair.target bounds p.input p.tape).outcome tapes ≡ not (some_covers pair bounds p tapes)
unfolding none_allows some_covers covers
none_is pair bounds p [] = refl
none_is pair bounds p (tape ∷ tapes) =
    not_either (is_refined (run_of pair.source bounds p.input tape).outcome (run_of pair.target bounds p.input p.tape).outcome)
    (none_allows pair.source bounds p.input (run_of pair.target bounds p.input p.tape).outcome tapes) (some_covers pair bounds p tapes) (none_is pair bounds p tapes)

-- ---- the uncovered point

abbrev pub point_at : Layout → (ℕ → ℕ → ℕ) → List Term → InputTerms → TapeTerms → Point
point_at layout v terms input tape = record { input = input_in layout v terms input; tape = words_at v terms tape.words }

point_is : (p : Point) (input : Input) (tape : List ℕ) → p.input ≡ input → p.tape ≡ tape → p ≡ record { input = input; tape = tape }
point_is p input tape e f = λ i. record { input = e i; tape = f i }

of_shape : (pair : RunPair) (bounds : Bounds) (s : Shape) (p : Point) → IsShapeOf pair bounds s → IsPoint pair bounds p → IsOfShape s p
of_shape pair bounds s p is h = record {
  args = rw (is.parameters, is.layout) h.args;
  given = rw is.layout h.given;
  tape = rw (is.word_width, is.words) h.tape;
}

a_point : (pair : RunPair) (bounds : Bounds) (s : Shape) (p : Point) → IsShapeOf pair bounds s → IsOfShape s p → IsPlain p.tape (run_of pair.target bounds p.input p.tape) → IsPoint pair bounds p
a_point pair bounds s p is h plain = record {
  args = rw (is.parameters, is.layout) at h.args;
  given = rw is.layout at h.given;
  tape = rw (is.word_width, is.words) at h.tape;
  plain = plain;
}

shape_code : {pair : RunPair} {bounds : Bounds} {s : Shape} {numbers : List ℕ} (p : Point) → IsShapeOf pair bounds s → code_of s.layout s.parameters p ≡ numbers → code_of (layout_of pair bounds) pair.target.parameters p ≡ numbers
shape_code p is e = two (λ (y : Layout) (ps : List Parameter). code_of y ps p) (sym is.layout) (sym is.parameters) ∙ e

-- a point whose code the terms denote is the one that they denote
pub the_point : (pair : RunPair) (bounds : Bounds) (s : Shape) (terms : List Term) (input : InputTerms) (tape : TapeTerms) → IsShapeOf pair bounds s → IsInputOf s terms input → (v : ℕ → ℕ → ℕ) (p : Point) → IsOfShape s p
    → code_of s.layout s.parameters p ≡ numbers_at v terms input tape → point_at (layout_of pair bounds) v terms input tape ≡ p
the_point pair bounds s terms input tape shape are v p of code =
    let d = decoded v terms s input tape p are of code in
    let there = d.0 ∙ ap (λ (y : Layout). input_at (reading y.blocks v) terms input) shape.layout in
    sym (point_is p (input_in (layout_of pair bounds) v terms input) (words_at v terms tape.words) there d.1)

-- and its integer arguments have the numbers that the terms denote
pub the_integers : (pair : RunPair) (bounds : Bounds) (s : Shape) (terms : List Term) (input : InputTerms) (tape : TapeTerms) → IsShapeOf pair bounds s → IsInputOf s terms input → (v : ℕ → ℕ → ℕ) (p : Point) → IsOfShape s p
    → code_of s.layout s.parameters p ≡ numbers_at v terms input tape → integers_at v terms input.args ≡ integers pair.target.parameters p.input.args
the_integers pair bounds s terms input tape shape are v p of code =
    sym (integers_decoded v terms s input tape p are of code) ∙ ap (λ (ps : List Parameter). integers ps p.input.args) shape.parameters

-- ---- any point

module _ (pair : RunPair) (bounds : Bounds) (s : Shape) (terms new : List Term) (input : InputTerms) (tape : TapeTerms) (o : OutcomeTerms) (id : TermId) (shape : IsShapeOf pair bounds s) (are : IsInputOf s terms input)
    (run : IsOfTarget pair bounds terms input tape o) (well : Decides new id (λ v. IsCode s (numbers_at v terms input tape) × (bit_at v terms o.plain ≡ true))) where
  to_point : (v : ℕ → ℕ → ℕ) → bit_at v new id ≡ true → IsMissed pair bounds [] [] (numbers_at v terms input tape)
  unfolding some_covers
  to_point v e =
      let is_code = (well.1 v).0 e in
      let found = (codes_tell_points s).points (numbers_at v terms input tape) is_code.0 in
      let p : Point = found.0 in
      let same = the_point pair bounds s terms input tape shape are v p found.1.of_shape found.1.code in
      let plain : IsPlain p.tape (run_of pair.target bounds p.input p.tape) = subst (λ (q : Point). IsPlain q.tape (run_of pair.target bounds q.input q.tape)) same ((run.shows v).plain.0 is_code.1) in
      record {
        of = p;
        point = a_point pair bounds s p shape found.1.of_shape plain;
        code = shape_code p shape found.1.code;
        by_candidate = refl;
        by_tape = refl;
      }

  from_point : (v : ℕ → ℕ → ℕ) → IsMissed pair bounds [] [] (numbers_at v terms input tape) → bit_at v new id ≡ true
  from_point v u =
      let p : Point = u.of in
      let of = of_shape pair bounds s p shape u.point in
      let code : code_of s.layout s.parameters p ≡ numbers_at v terms input tape = rw (shape.parameters, shape.layout) u.code in
      let same = the_point pair bounds s terms input tape shape are v p of code in
      let is_code : IsCode s (numbers_at v terms input tape) = subst (IsCode s) code ((codes_tell_points s).codes p of) in
      let plain = (run.shows v).plain.1 (subst (λ (q : Point). IsPlain q.tape (run_of pair.target bounds q.input q.tape)) (sym same) u.point.plain) in
      (well.1 v).1 (is_code, plain)

  pub point_decides : Decides new id (λ v. IsMissed pair bounds [] [] (numbers_at v terms input tape))
  point_decides = (well.0, λ v. (to_point v, from_point v))

-- ---- the covering tape

words_fit : (terms : List Term) (words : List TermId) → AreInRange terms → AreWords terms words → (v : ℕ → ℕ → ℕ) → WordsFit 64 (length words) (words_at v terms words)
words_fit terms [] range h v = tt
words_fit terms (w ∷ ws) range h v = (term-below terms 64 w range h.0 v, words_fit terms ws range h.1 v)

pub covering_decides : (t0 t1 t2 t3 t4 t5 : List Term) (pair : RunPair) (bounds : Bounds) (s : Shape) (p : Point) (input : InputTerms) (tape choices : TapeTerms) (source target : OutcomeTerms) (id : TermId)
    → AreInRange t0 → AreWords t0 tape.words → length tape.words ≡ need_of bounds.turns pair.source → IsShapeOf pair bounds s → IsInputOf s t1 input → AreWords t2 choices.words → Keeps t0 t1 → Keeps t1 t2 → Keeps t2 t3 → Keeps t3 t4
    → ((v : ℕ → ℕ → ℕ) → input_at (reading s.layout.blocks v) t1 input ≡ p.input) → ((v : ℕ → ℕ → ℕ) → words_at v t2 choices.words ≡ p.tape) → IsOfTarget pair bounds t3 input choices target
    → ((v : ℕ → ℕ → ℕ) → Shows (reading bounds.blocks v) t4 (words_at v t3 tape.words) (run_of pair.source bounds (input_in (layout_of pair bounds) v t3 input) (words_at v t3 tape.words)) source)
    → Tests t5 id (λ v. is_refined (outcome_in (layout_of pair bounds) v t4 source) (outcome_in (layout_of pair bounds) v t4 target))
    → Decides t5 id (λ v. IsCovering pair bounds p (words_at v t0 tape.words))
unfolding covers
covering_decides t0 t1 t2 t3 t4 t5 pair bounds s p input tape choices source target id range words count shape are choice_words k1 k2 k3 k4 known chosen of_target source_shows t =
    (record { within = t.within; wide = t.wide }, λ v. ((λ e. record { fits = subst (λ n. WordsFit 64 n (words_at v t0 tape.words)) count (words_fit t0 tape.words range words v); cover = sym (says v) ∙ e }), (λ c. says v ∙ c.cover)))
  where
    inputs : (v : ℕ → ℕ → ℕ) → input_in (layout_of pair bounds) v t3 input ≡ p.input
    inputs v = input_at-later t1 t3 (keeps_trans t1 t2 t3 k2 k3) (reading bounds.blocks v) s.parameters s.layout input are ∙ (ap (λ (y : Layout). input_at (reading y.blocks v) t1 input) (sym shape.layout) ∙ known v)

    says : (v : ℕ → ℕ → ℕ) → bit_at v t5 id ≡ is_refined (run_of pair.source bounds p.input (words_at v t0 tape.words)).outcome (run_of pair.target bounds p.input p.tape).outcome
    says v =
        let k03 = keeps_trans t0 t1 t3 k1 (keeps_trans t1 t2 t3 k2 k3) in
        let from_source : outcome_in (layout_of pair bounds) v t4 source ≡ (run_of pair.source bounds p.input (words_at v t0 tape.words)).outcome =
        (source_shows v).outcome ∙ two (λ (i : Input) (ws : List ℕ). (run_of pair.source bounds i ws).outcome) (inputs v) (words_at-later t0 t3 k03 v tape.words words) in
        let from_target : outcome_in (layout_of pair bounds) v t4 target ≡ (run_of pair.target bounds p.input p.tape).outcome =
        outcome-later t3 t4 k4 (reading bounds.blocks v) target of_target.made
        ∙ ((of_target.shows v).outcome ∙ two (λ (i : Input) (ws : List ℕ). (run_of pair.target bounds i ws).outcome) (inputs v) (words_at-later t2 t3 k3 v choices.words choice_words ∙ chosen v)) in
        t.says v ∙ two is_refined from_source from_target

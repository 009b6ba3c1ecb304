-- What variables one after another do to the terms and to their order.
use Rattle.pair_questions.proofs.Common.{ℕ, zero, suc, ◌≡◌, ◌<◌, ◌+◌, List, [], ◌∷◌, ◌++◌, length, replicate, take, get_or, refl, ap, sym, subst, ◌∙◌, arith, length-append, append_assoc, append-nil, flat_map, take_more, IrType, Parameter, Layout, Shape, TermId, Term, width_of, Extends, IsTerm, ArgTerms, ByteTerms, InputTerms, Each, IsArg, AreArgs, IsByteTerms, IsBlockTerms, each-weaker, each-push, IsInputOf, IsOrder, value_widths, args_widths, places_widths, blocks_widths}
use Rattle.ir_tree.specs.declared.tree.IrType.TheVariants as type
use Rattle.mem_terms.specs.declared.inputs.ArgTerms.TheVariants as arg

-- ---- more terms

pub extends_trans : (a b c : List Term) → Extends a b → Extends b c → Extends a c
extends_trans a b c p q = record {
  longer = omega (arith, p.longer, q.longer);
  terms = λ i lt. q.terms i (omega (arith, p.longer)) ∙ p.terms i lt;
  kept = λ x lt. q.kept x (omega (arith, p.longer)) ∙ p.kept x lt;
}

module _ (old new : List Term) (e : Extends old new) where
  pub term_extended : (n : ℕ) (a : TermId) → IsTerm old n a → IsTerm new n a
  term_extended n a h = record { within = omega (arith, h.within, e.longer); wide = ap width_of (e.kept a h.within) ∙ h.wide }

  pub terms_extended : (n : ℕ) (xs : List TermId) → Each (IsTerm old n) xs → Each (IsTerm new n) xs
  terms_extended n xs h = each-weaker (IsTerm old n) (IsTerm new n) xs (term_extended n) h

  pub arg_extended : (t : IrType) (a : ArgTerms) → IsArg old t a → IsArg new t a
  arg_extended (type.Int w) (arg.Int flag number) h = (term_extended 1 flag h.0, term_extended w.bits number h.1)
  arg_extended type.Ptr (arg.Ptr flag block offset) h = (term_extended 1 flag h.0, term_extended 3 block h.1, term_extended 64 offset h.2)
  arg_extended (type.Int w) (arg.Ptr flag block offset) h = h
  arg_extended type.Ptr (arg.Int flag number) h = h

  pub args_extended : (ps : List Parameter) (args : List ArgTerms) → AreArgs old ps args → AreArgs new ps args
  args_extended [] [] h = tt
  args_extended (p ∷ ps) (a ∷ rest) h = (arg_extended p.of_type a h.0, args_extended ps rest h.1)
  args_extended [] (a ∷ rest) h = h
  args_extended (p ∷ ps) [] h = h

  pub byte_extended : (b : ByteTerms) → IsByteTerms old b → IsByteTerms new b
  byte_extended b h = record {
    kind = term_extended 2 b.kind h.kind;
    mask = term_extended 8 b.mask h.mask;
    number = term_extended 8 b.number h.number;
    block = term_extended 3 b.block h.block;
    offset = term_extended 64 b.offset h.offset;
    part = term_extended 3 b.part h.part;
  }

  pub bytes_extended : (xs : List ByteTerms) → Each (IsByteTerms old) xs → Each (IsByteTerms new) xs
  bytes_extended xs h = each-weaker (IsByteTerms old) (IsByteTerms new) xs byte_extended h

  pub block_extended : (bytes : ℕ) (xs : List ByteTerms) → IsBlockTerms bytes old xs → IsBlockTerms bytes new xs
  block_extended bytes xs h = record { count = h.count; are = bytes_extended xs h.are }

  pub blocks_extended : (bytes : ℕ) (xs : List (List ByteTerms)) → Each (IsBlockTerms bytes old) xs → Each (IsBlockTerms bytes new) xs
  blocks_extended bytes xs h = each-weaker (IsBlockTerms bytes old) (IsBlockTerms bytes new) xs (block_extended bytes) h

  pub input_extended : (s : Shape) (input : InputTerms) → IsInputOf s old input → IsInputOf s new input
  input_extended s input h = record {
    args = args_extended s.parameters input.args h.args;
    size_count = h.size_count;
    sizes = terms_extended 6 input.sizes h.sizes;
    block_count = h.block_count;
    places = blocks_extended s.layout.bytes input.places h.places;
  }

-- ---- longer orders

-- an order stays one, with further terms of these widths
abbrev pub Grows : (old new : List Term) (before after : List TermId) → List ℕ → Type 0
Grows old new before after more = (widths : List ℕ) → IsOrder old before widths → IsOrder new after (widths ++ more)

pub grows_trans : (a b c : List Term) (x y z : List TermId) (more further : List ℕ) → Grows a b x y more → Grows b c y z further → Grows a c x z (more ++ further)
grows_trans a b c x y z more further g h widths is = subst (IsOrder c z) (append_assoc widths more further) (h (widths ++ more) (g widths is))

pub grows_as : (a b : List Term) (x y : List TermId) (more other : List ℕ) → more ≡ other → Grows a b x y more → Grows a b x y other
grows_as a b x y more other e g = subst (Grows a b x y) e g

pub ids_more : {A : Type 0} (start middle end a b : List A) → middle ≡ start ++ a → end ≡ middle ++ b → end ≡ start ++ (a ++ b)
ids_more start middle end a b p q = q ∙ (ap (λ xs. xs ++ b) p ∙ append_assoc start a b)

pub ids_as : {A : Type 0} (start end a b : List A) → a ≡ b → end ≡ start ++ a → end ≡ start ++ b
ids_as start end a b e p = p ∙ ap (λ xs. start ++ xs) e

pub flat_map_push : {A B : Type 0} (f : A → List B) (xs : List A) (x : A) → flat_map f (xs ++ x ∷ []) ≡ flat_map f xs ++ f x
flat_map_push f [] x = append-nil (f x)
flat_map_push f (y ∷ ys) x = ap (λ zs. f y ++ zs) (flat_map_push f ys x) ∙ sym (append_assoc (f y) (flat_map f ys) (f x))

pub ids_pushed : {A B : Type 0} (f : A → List B) (start end : List B) (xs more : List A) (x : A) → more ≡ xs ++ x ∷ [] → end ≡ start ++ (flat_map f xs ++ f x) → end ≡ start ++ flat_map f more
ids_pushed f start end xs more x e p = p ∙ ap (λ zs. start ++ zs) (sym (flat_map_push f xs x) ∙ sym (ap (flat_map f) e))

-- ---- one more of each

pub replicate_more : (n w : ℕ) → replicate n w ++ w ∷ [] ≡ replicate (n + 1) w
replicate_more zero w = refl
replicate_more (suc n) w =
    let e : suc n + 1 ≡ suc (n + 1) = omega arith in
    rw e (ap (λ ws. w ∷ ws) (replicate_more n w))

pub places_more : (n : ℕ) → places_widths n ++ places_widths 1 ≡ places_widths (n + 1)
places_more zero = refl
places_more (suc n) =
    let e : suc n + 1 ≡ suc (n + 1) = omega arith in
    rw e (ap (λ ws. 2 ∷ 8 ∷ 8 ∷ 3 ∷ 64 ∷ 3 ∷ ws) (places_more n))

pub blocks_more : (layout : Layout) (n : ℕ) → blocks_widths layout n ++ places_widths layout.bytes ≡ blocks_widths layout (n + 1)
blocks_more layout zero = sym (append-nil (places_widths layout.bytes))
blocks_more layout (suc n) =
    let e : suc n + 1 ≡ suc (n + 1) = omega arith in
    rw e (append_assoc (places_widths layout.bytes) (blocks_widths layout n) (places_widths layout.bytes) ∙ ap (λ ws. places_widths layout.bytes ++ ws) (blocks_more layout n))

widths_push : (ps : List Parameter) (p : Parameter) → args_widths (ps ++ p ∷ []) ≡ args_widths ps ++ value_widths p.of_type
widths_push [] p = append-nil (value_widths p.of_type)
widths_push (q ∷ qs) p = ap (λ ws. value_widths q.of_type ++ ws) (widths_push qs p) ∙ sym (append_assoc (value_widths q.of_type) (args_widths qs) (value_widths p.of_type))

pub widths_more : (ps : List Parameter) (i : ℕ) (d : Parameter) → i < length ps → args_widths (take i ps) ++ value_widths (get_or ps i d).of_type ≡ args_widths (take (i + 1) ps)
widths_more ps i d lt = sym (widths_push (take i ps) (get_or ps i d)) ∙ sym (ap args_widths (take_more ps i d lt))

args_push : (terms : List Term) (ps : List Parameter) (args : List ArgTerms) (p : Parameter) (a : ArgTerms) → AreArgs terms ps args → IsArg terms p.of_type a → AreArgs terms (ps ++ p ∷ []) (args ++ a ∷ [])
args_push terms [] [] p a h is = (is, tt)
args_push terms (q ∷ qs) (b ∷ bs) p a h is = (h.0, args_push terms qs bs p a h.1 is)
args_push terms [] (b ∷ bs) p a h is = absurd h
args_push terms (q ∷ qs) [] p a h is = absurd h

pub args_more : (terms : List Term) (ps : List Parameter) (i : ℕ) (d : Parameter) (args more : List ArgTerms) (a : ArgTerms) → i < length ps → AreArgs terms (take i ps) args → IsArg terms (get_or ps i d).of_type a
    → more ≡ args ++ a ∷ [] → AreArgs terms (take (i + 1) ps) more
args_more terms ps i d args more a lt h is e = rw (e, take_more ps i d lt) (args_push terms (take i ps) args (get_or ps i d) a h is)

pub each_more : {A : Type 0} (P : A → Type 0) (xs more : List A) (x : A) → Each P xs → P x → more ≡ xs ++ x ∷ [] → Each P more
each_more P xs more x h p e = subst (λ ys. Each P ys) (sym e) (each-push P xs x h p)

pub length_more : {A : Type 0} (xs more : List A) (x : A) (n : ℕ) → length xs ≡ n → more ≡ xs ++ x ∷ [] → length more ≡ n + 1
length_more xs more x n h e = ap length e ∙ (length-append xs (x ∷ []) ∙ (let z : length xs + 1 ≡ n + 1 = omega (arith, h) in z))

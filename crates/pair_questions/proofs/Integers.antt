-- The numbers of the integer arguments, one argument after the other.
use Rattle.pair_questions.proofs.Common.{ℕ, zero, suc, ◌≡◌, ◌<◌, ◌≤◌, ◌+◌, List, [], ◌∷◌, ◌++◌, length, take, get_or, append-nil, refl, ap, sym, subst, ◌∙◌, arith, take_more, take_all, flat_map, IrType, Int, Parameter, TermId, Term, width_of, tree_in, IsTerm, Keeps, Makes, term_at, ArgTerms, AreArgs, IsArg, AreWords, words_at, each-push, map-push, keeps_trans, keeps_self, term-later, words-later, words_at-later, integer_at, integers_at}
use Rattle.ir_tree.specs.declared.tree.IrType.TheVariants as type
use Rattle.mem_terms.specs.declared.inputs.ArgTerms.TheVariants as arg
use Rattle.refine_terms.specs.Deciding.{IsNarrow}
use Rattle.pair_questions.proofs.Extending.{flat_map_push}

-- the argument at an index, whatever stands for one outside the list
pub arg_at : (args : List ArgTerms) (i : ℕ) (other a : ArgTerms) → i < length args → get_or args i other ≡ a → a ≡ get_or args i a
arg_at [] i other a lt e = absurd (omega (arith, lt))
arg_at (x ∷ xs) zero other a lt e = sym e
arg_at (x ∷ xs) (suc i) other a lt e = arg_at xs i other a (omega (arith, lt)) e

-- an integer argument has at most 64 bits
pub int_there : (terms : List Term) (ps : List Parameter) (args : List ArgTerms) (i : ℕ) (flag number : TermId) → AreArgs terms ps args → i < length args → arg.Int flag number ≡ get_or args i (arg.Int flag number) → IsNarrow terms number
int_there terms ps [] i flag number h lt e = absurd (omega (arith, lt))
int_there terms [] (a ∷ rest) i flag number h lt e = absurd h
int_there terms (p ∷ ps) (a ∷ rest) zero flag number h lt e = here p.of_type a e h.0
  where
    here : (t : IrType) (a : ArgTerms) → arg.Int flag number ≡ a → IsArg terms t a → IsNarrow terms number
    here (Int w) (arg.Int g n) e is =
        let same : number ≡ n = cc in
        subst (IsNarrow terms) (sym same) (record { within = is.1.within; narrow = (let wide = is.1.wide in let most = w.at_most_64 in omega (arith, wide, most)) })
    here (Int w) (arg.Ptr g b o) e is = absurd is
    here type.Ptr (arg.Int g n) e is = absurd is
    here type.Ptr (arg.Ptr g b o) e is = absurd (let z : ⊥ = cc in z)
int_there terms (p ∷ ps) (a ∷ rest) (suc i) flag number h lt e = int_there terms ps rest i flag number h.1 (omega (arith, lt)) e

pub narrow-later : (old new : List Term) (a : TermId) → Keeps old new → IsNarrow old a → IsNarrow new a
narrow-later old new a k h = record {
  within = omega (arith, k.longer, h.within);
  narrow = rw (k.kept a h.within) h.narrow;
}

-- the numbers of the first arguments
pub record IsRow (old terms : List Term) (args : List ArgTerms) (i : ℕ) (numbers : List TermId) : Type 0 where
  pub kept : Keeps old terms
  pub are : AreWords terms numbers
  pub stands : (v : ℕ → ℕ → ℕ) → words_at v terms numbers ≡ integers_at v old (take i args)

one_more : (v : ℕ → ℕ → ℕ) (old : List Term) (args : List ArgTerms) (i : ℕ) (a : ArgTerms) → i < length args → a ≡ get_or args i a → integers_at v old (take (i + 1) args) ≡ integers_at v old (take i args) ++ integer_at v old a
one_more v old args i a lt is =
    ap (integers_at v old) (take_more args i a lt ∙ ap (λ (x : ArgTerms). take i args ++ x ∷ []) (sym is)) ∙ flat_map_push (integer_at v old) (take i args) a

pub int_more : (old before after : List Term) (args : List ArgTerms) (i : ℕ) (flag number : TermId) (numbers more : List TermId) (word : TermId) → i < length args → arg.Int flag number ≡ get_or args i (arg.Int flag number) → number.index < length old
    → Keeps before after → Makes after word 64 (λ v. term_at v before number) → more ≡ numbers ++ word ∷ [] → IsRow old before args i numbers → IsRow old after args (i + 1) more
int_more old before after args i flag number numbers more word lt is within k made e h = rw e (record {
  kept = keeps_trans old before after h.kept k;
  are = each-push (IsTerm after 64) numbers word (words-later before after k numbers h.are) (record { within = made.within; wide = made.wide });
  stands = λ v.
      map-push (term_at v after) numbers word
      ∙ ap (λ (ns : List ℕ). ns ++ term_at v after word ∷ []) (words_at-later before after k v numbers h.are ∙ h.stands v)
      ∙ ap (λ n. integers_at v old (take i args) ++ n ∷ []) (made.says v ∙ term-later old before h.kept v number within)
      ∙ sym (one_more v old args i (arg.Int flag number) lt is);
})

pub ptr_more : (old terms : List Term) (args : List ArgTerms) (i : ℕ) (flag block offset : TermId) (numbers : List TermId) → i < length args → arg.Ptr flag block offset ≡ get_or args i (arg.Ptr flag block offset) → IsRow old terms args i numbers → IsRow old terms args (i + 1) numbers
ptr_more old terms args i flag block offset numbers lt is h = record {
  kept = h.kept;
  are = h.are;
  stands = λ v. h.stands v ∙ sym (append-nil (integers_at v old (take i args))) ∙ sym (one_more v old args i (arg.Ptr flag block offset) lt is);
}

pub row_end : (old terms : List Term) (args : List ArgTerms) (i : ℕ) (numbers all : List TermId) → length args ≤ i → all ≡ numbers → IsRow old terms args i numbers → (v : ℕ → ℕ → ℕ) → words_at v terms all ≡ integers_at v old args
row_end old terms args i numbers all le e h v = ap (words_at v terms) e ∙ h.stands v ∙ ap (integers_at v old) (take_all i args le)

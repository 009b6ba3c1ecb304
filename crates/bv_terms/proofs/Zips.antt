-- How one more answer goes with one more tree.
use Rattle.std.proofs.Common.{ap, ℕ, zero, suc, ◌≡◌, ◌<◌, ◌+◌, List, [], ◌∷◌, ◌++◌, length, get_or, drop, add-one, arith, refl}
use Rattle.std.proofs.Math.Seq.{drop-cons}
use Rattle.std.specs.List.{AllZip}
use Rattle.bv_terms.specs.declared.term.Term.{Term}
use Rattle.bv_terms.specs.Tree.{Tree}
use Rattle.bv_terms.specs.Trees.{AreFit, IsFit, tree_of, trees_from, trees_of}

module _ {Out : Type 0} (R : Tree → Out → Type 0) where
  pub AllZip-push : (trees : List Tree) (outs : List Out) (tree : Tree) (out : Out) → AllZip R trees outs → R tree out
      → AllZip R (trees ++ tree ∷ []) (outs ++ out ∷ [])
  AllZip-push [] [] tree out h r = (r, tt)
  AllZip-push [] (o ∷ os) tree out h r = absurd h
  AllZip-push (t ∷ ts) [] tree out h r = absurd h
  AllZip-push (t ∷ ts) (o ∷ os) tree out h r = (h.0, AllZip-push ts os tree out h.1 r)

-- these trees come before the term at i, and with the rest they are those of all
pub record IsStage (terms : List Term) (all trees : List Tree) (i : ℕ) : Type 0 where
  pub whole : trees_from trees (drop i terms) ≡ all
  pub fit : AreFit trees (drop i terms)

pub IsStage-fit : (terms : List Term) (all trees : List Tree) (i : ℕ) (d : Term) → i < length terms → IsStage terms all trees i → IsFit trees (get_or terms i d)
IsStage-fit terms all trees i d lt stage =
    let e = drop-cons terms i d lt in
    let fit = rw e at stage.fit in fit.0

pub IsStage-more : (terms : List Term) (all trees : List Tree) (i : ℕ) (d : Term) → i < length terms → IsStage terms all trees i
    → IsStage terms all (trees ++ tree_of trees (get_or terms i d) ∷ []) (i + 1)
IsStage-more terms all trees i d lt stage =
    let e = drop-cons terms i d lt in
    let fit = rw e at stage.fit in
    let whole = rw e at stage.whole in
    record { whole = rw add-one whole; fit = rw add-one fit.1 }

module _ {Out : Type 0} (R : Tree → Out → Type 0) where
  pub length-AllZip : (trees : List Tree) (outs : List Out) → AllZip R trees outs → length trees ≡ length outs
  length-AllZip [] [] h = refl
  length-AllZip [] (o ∷ os) h = absurd h
  length-AllZip (t ∷ ts) [] h = absurd h
  length-AllZip (t ∷ ts) (o ∷ os) h = ap suc (length-AllZip ts os h.1)

  pub AllZip-at : (trees : List Tree) (outs : List Out) (i : ℕ) (d : Tree) (e : Out) → AllZip R trees outs → i < length trees
      → R (get_or trees i d) (get_or outs i e)
  AllZip-at [] outs i d e h lt = absurd (omega arith)
  AllZip-at (t ∷ ts) [] i d e h lt = absurd h
  AllZip-at (t ∷ ts) (o ∷ os) zero d e h lt = h.0
  AllZip-at (t ∷ ts) (o ∷ os) (suc i) d e h lt = AllZip-at ts os i d e h.1 (omega arith)

-- answers related by one relation are related by a weaker one
pub AllZip-weaker : {Out : Type 0} (R S : Tree → Out → Type 0) → ((t : Tree) (o : Out) → R t o → S t o)
    → (trees : List Tree) (outs : List Out) → AllZip R trees outs → AllZip S trees outs
AllZip-weaker R S weaker [] [] h = tt
AllZip-weaker R S weaker [] (o ∷ os) h = absurd h
AllZip-weaker R S weaker (t ∷ ts) [] h = absurd h
AllZip-weaker R S weaker (t ∷ ts) (o ∷ os) h = (weaker t o h.0, AllZip-weaker R S weaker ts os h.1)

pub stage_start : (terms : List Term) → AreFit [] terms → IsStage terms (trees_of terms) [] 0
unfolding trees_of
stage_start terms fit = record { whole = refl; fit = fit }

-- A function is refused for the first reason that has a site, at its first site.
use Rattle.ir_tree.proofs.Common.{◌≡◌, ◌≤◌, ℕ, refl, sym, ◌∙◌, ap, arith, Function, IsFirstSite, IsTestedAs, IsWellFormed, refusal_at, OneRefusal, RefusedIsNotWellFormed}
use Rattle.ir_tree.specs.declared.module.Reason.{Reason}
use Rattle.ir_tree.specs.declared.module.Reason.TheVariants.{Syntax, Unsupported, Limit, NameTwice, NameUnknown, TypeClash, PhiEdges, Unassigned, UndefUse}

same_site : (reason : Reason) (f : Function) (n m : ℕ) → IsFirstSite reason f n → IsFirstSite reason f m → n ≡ m
same_site reason f n m a b = let low : n ≤ m = a.first m b.fails in let high : m ≤ n = b.first n a.fails in omega (arith, low, high)

-- one reason, and one site
one_test : (f : Function) (n m : ℕ) (reason other : Reason) → IsTestedAs reason f n → IsTestedAs other f m → (reason ≡ other) × (n ≡ m)
one_test f n m Syntax other a b = absurd a
one_test f n m Unsupported other a b = absurd a
one_test f n m Limit other a b = absurd a
one_test f n m NameTwice Syntax a b = absurd b
one_test f n m NameTwice Unsupported a b = absurd b
one_test f n m NameTwice Limit a b = absurd b
one_test f n m NameTwice NameTwice a b = (refl, same_site NameTwice f n m a b)
one_test f n m NameTwice NameUnknown a b = absurd (b.0 n a.fails)
one_test f n m NameTwice TypeClash a b = absurd (b.0.0 n a.fails)
one_test f n m NameTwice PhiEdges a b = absurd (b.0.0 n a.fails)
one_test f n m NameTwice Unassigned a b = absurd (b.0.0 n a.fails)
one_test f n m NameTwice UndefUse a b = absurd (b.0.0 n a.fails)
one_test f n m NameUnknown Syntax a b = absurd b
one_test f n m NameUnknown Unsupported a b = absurd b
one_test f n m NameUnknown Limit a b = absurd b
one_test f n m NameUnknown NameTwice a b = absurd (a.0 m b.fails)
one_test f n m NameUnknown NameUnknown a b = (refl, same_site NameUnknown f n m a.1 b.1)
one_test f n m NameUnknown TypeClash a b = absurd (b.0.1 n a.1.fails)
one_test f n m NameUnknown PhiEdges a b = absurd (b.0.1 n a.1.fails)
one_test f n m NameUnknown Unassigned a b = absurd (b.0.1 n a.1.fails)
one_test f n m NameUnknown UndefUse a b = absurd (b.0.1 n a.1.fails)
one_test f n m TypeClash Syntax a b = absurd b
one_test f n m TypeClash Unsupported a b = absurd b
one_test f n m TypeClash Limit a b = absurd b
one_test f n m TypeClash NameTwice a b = absurd (a.0.0 m b.fails)
one_test f n m TypeClash NameUnknown a b = absurd (a.0.1 m b.1.fails)
one_test f n m TypeClash TypeClash a b = (refl, same_site TypeClash f n m a.1 b.1)
one_test f n m TypeClash PhiEdges a b = absurd (b.1 n a.1.fails)
one_test f n m TypeClash Unassigned a b = absurd (b.1 n a.1.fails)
one_test f n m TypeClash UndefUse a b = absurd (b.1 n a.1.fails)
one_test f n m PhiEdges Syntax a b = absurd b
one_test f n m PhiEdges Unsupported a b = absurd b
one_test f n m PhiEdges Limit a b = absurd b
one_test f n m PhiEdges NameTwice a b = absurd (a.0.0 m b.fails)
one_test f n m PhiEdges NameUnknown a b = absurd (a.0.1 m b.1.fails)
one_test f n m PhiEdges TypeClash a b = absurd (a.1 m b.1.fails)
one_test f n m PhiEdges PhiEdges a b = (refl, same_site PhiEdges f n m a.2 b.2)
one_test f n m PhiEdges Unassigned a b = absurd (b.2 n a.2.fails)
one_test f n m PhiEdges UndefUse a b = absurd (b.2 n a.2.fails)
one_test f n m Unassigned Syntax a b = absurd b
one_test f n m Unassigned Unsupported a b = absurd b
one_test f n m Unassigned Limit a b = absurd b
one_test f n m Unassigned NameTwice a b = absurd (a.0.0 m b.fails)
one_test f n m Unassigned NameUnknown a b = absurd (a.0.1 m b.1.fails)
one_test f n m Unassigned TypeClash a b = absurd (a.1 m b.1.fails)
one_test f n m Unassigned PhiEdges a b = absurd (a.2 m b.2.fails)
one_test f n m Unassigned Unassigned a b = (refl, same_site Unassigned f n m a.3 b.3)
one_test f n m Unassigned UndefUse a b = absurd (b.3 n a.3.fails)
one_test f n m UndefUse Syntax a b = absurd b
one_test f n m UndefUse Unsupported a b = absurd b
one_test f n m UndefUse Limit a b = absurd b
one_test f n m UndefUse NameTwice a b = absurd (a.0.0 m b.fails)
one_test f n m UndefUse NameUnknown a b = absurd (a.0.1 m b.1.fails)
one_test f n m UndefUse TypeClash a b = absurd (a.1 m b.1.fails)
one_test f n m UndefUse PhiEdges a b = absurd (a.2 m b.2.fails)
one_test f n m UndefUse Unassigned a b = absurd (a.3 m b.3.fails)
one_test f n m UndefUse UndefUse a b = (refl, same_site UndefUse f n m a.4 b.4)

pub one_refusal : OneRefusal
one_refusal f reason other a b ra rb =
    let same = one_test f ra.site rb.site reason other ra.tested rb.tested in
    ra.told ∙ ap (λ (r : Reason). refusal_at r f ra.site) same.0 ∙ ap (λ (n : ℕ). refusal_at other f n) same.1 ∙ sym rb.told

fails_well_formed : (f : Function) (n : ℕ) (reason : Reason) → IsTestedAs reason f n → IsWellFormed f → ⊥
fails_well_formed f n Syntax a well = a
fails_well_formed f n Unsupported a well = a
fails_well_formed f n Limit a well = a
fails_well_formed f n NameTwice a well = well.names.0 n a.fails
fails_well_formed f n NameUnknown a well = well.names.1 n a.1.fails
fails_well_formed f n TypeClash a well = well.types n a.1.fails
fails_well_formed f n PhiEdges a well = well.edges n a.2.fails
fails_well_formed f n Unassigned a well = well.assigned n a.3.fails
fails_well_formed f n UndefUse a well = well.undef n a.4.fails

pub never_well_formed : RefusedIsNotWellFormed
never_well_formed f reason refused r well = fails_well_formed f r.site reason r.tested well

-- Tests that hold wherever a condition does.
use Rattle.run_terms.proofs.Common.{ℕ, ◌≡◌, Bool, true, false, not, ◌&&◌, ◌||◌, List, [], ◌∷◌, ◌++◌, take, ◌⊎◌, inl, inr, refl, sym, subst, ◌∙◌, each-take, keeps_self, bit-later, TermId, Term, Keeps, IsTerm, Tests, bit_at, Test, AreTests, HoldAll, LeadsBy}
use Rattle.run_terms.proofs.Lasting.{tested, tests-later, hold-later, leads-later, leads_further, leads_under}

pub both_hold : (x y : Bool) → (x && y) ≡ true → (x ≡ true) × (y ≡ true)
both_hold true y e = (refl, e)
both_hold false y e = absurd (let c : ⊥ = cc in c)

either_holds : (x y : Bool) → (x || y) ≡ true → (x ≡ true) ⊎ (y ≡ true)
either_holds true y e = inl refl
either_holds false y e = inr e

not_holds : (x : Bool) → not x ≡ true → x ≡ false
not_holds true e = absurd (let c : ⊥ = cc in c)
not_holds false e = refl

-- ---- the tests that two paths begin with

pub tests_front : (terms : List Term) (path front : List Test) (n : ℕ) → front ≡ take n path → AreTests terms path → AreTests terms front
tests_front terms path front n is h = subst (AreTests terms) (sym is) (each-take (λ (t : Test). IsTerm terms 1 t.bit) path n h)

pub hold_front : (v : ℕ → ℕ → ℕ) (terms : List Term) (path front : List Test) (n : ℕ) → front ≡ take n path → HoldAll v terms path → HoldAll v terms front
hold_front v terms path front n is h = subst (HoldAll v terms) (sym is) (each-take (λ (t : Test). bit_at v terms t.bit ≡ t.holds) path n h)

-- they hold where either condition does
pub common_leads : {old a new : List Term} (ka : Keeps old a) (kn : Keeps a new) (c d alive : TermId) (xs ys front : List Test) → (n : ℕ) × (front ≡ take n xs) × (front ≡ take n ys)
    → LeadsBy old c xs → LeadsBy old d ys → Tests a alive (λ v. bit_at v old d || bit_at v old c) → LeadsBy new alive front
common_leads {old = old} {a = a} {new = new} ka kn c d alive xs ys front is hc hd t =
    leads-later a new kn alive front (tested t) (record {
      tests = tests-later old a ka front (tests_front old xs front is.0 is.1 hc.tests);
      hold = λ v held. hold-later old a ka v front (tests_front old xs front is.0 is.1 hc.tests) (by v (either_holds (bit_at v old d) (bit_at v old c) (sym (t.says v) ∙ held)));
    })
  where
    by : (v : ℕ → ℕ → ℕ) → (bit_at v old d ≡ true) ⊎ (bit_at v old c ≡ true) → HoldAll v old front
    by v (inl e) = hold_front v old ys front is.0 is.2 (hd.hold v e)
    by v (inr e) = hold_front v old xs front is.0 is.1 (hc.hold v e)

-- ---- the two ways of a branch and of a case

-- where the condition holds less often
pub leads_less : {old a b : List Term} (ka : Keeps old a) (kb : Keeps a b) (c d : TermId) (path : List Test) → LeadsBy old c path → (test : (ℕ → ℕ → ℕ) → Bool) → Tests a d (λ v. bit_at v old c && test v) → LeadsBy b d path
leads_less {old = old} {a = a} {b = b} ka kb c d path h test t =
    leads-later a b kb d path (tested t) (leads_under old a ka c d path h (λ v held. (both_hold (bit_at v old c) (test v) (sym (t.says v) ∙ held)).0))

-- where the bit is true
pub leads_on : {old a b : List Term} (ka : Keeps old a) (kb : Keeps a b) (c bit on : TermId) (path longer : List Test) → longer ≡ path ++ record { bit = bit; holds = true } ∷ [] → LeadsBy old c path → IsTerm old 1 bit
    → Tests a on (λ v. bit_at v old c && bit_at v old bit) → LeadsBy b on longer
leads_on {old = old} {a = a} {b = b} ka kb c bit on path longer is h hb t =
    leads-later a b kb on longer (tested t) (subst (LeadsBy a on) (sym is) (leads_further old a ka c on path (record { bit = bit; holds = true }) h hb (λ v held.
    both_hold (bit_at v old c) (bit_at v old bit) (sym (t.says v) ∙ held))))

-- and where it is false
pub leads_off : {old a b : List Term} (ka : Keeps old a) (kb : Keeps a b) (c bit off : TermId) (path longer : List Test) → longer ≡ path ++ record { bit = bit; holds = false } ∷ [] → LeadsBy old c path → IsTerm old 1 bit
    → Tests a off (λ v. bit_at v old c && not (bit_at v old bit)) → LeadsBy b off longer
leads_off {old = old} {a = a} {b = b} ka kb c bit off path longer is h hb t =
    leads-later a b kb off longer (tested t) (subst (LeadsBy a off) (sym is) (leads_further old a ka c off path (record { bit = bit; holds = false }) h hb (λ v held.
    let it = both_hold (bit_at v old c) (not (bit_at v old bit)) (sym (t.says v) ∙ held) in
    (it.0, not_holds (bit_at v old bit) it.1))))

-- a case of a switch: the bit is made beside its two ways
module _ {old a b : List Term} (ka : Keeps old a) (kb : Keeps a b) (left same way : TermId) (hit : (ℕ → ℕ → ℕ) → Bool) (path longer : List Test) (h : LeadsBy old left path) (hl : IsTerm old 1 left) (ts : Tests a same hit) where
  pub case_on : longer ≡ path ++ record { bit = same; holds = true } ∷ [] → Tests a way (λ v. bit_at v old left && hit v) → LeadsBy b way longer
  case_on is t = leads_on (keeps_self a) kb left same way path longer is (leads-later old a ka left path hl h) (tested ts) (record {
    within = t.within;
    wide = t.wide;
    says = λ v. t.says v ∙ rw (bit-later old a ka v left hl.within, ts.says v) refl;
  })

  pub case_off : longer ≡ path ++ record { bit = same; holds = false } ∷ [] → Tests a way (λ v. bit_at v old left && not (hit v)) → LeadsBy b way longer
  case_off is t = leads_off (keeps_self a) kb left same way path longer is (leads-later old a ka left path hl h) (tested ts) (record {
    within = t.within;
    wide = t.wide;
    says = λ v. t.says v ∙ rw (bit-later old a ka v left hl.within, ts.says v) refl;
  })

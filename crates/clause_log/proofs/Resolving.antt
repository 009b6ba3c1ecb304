-- The computed resolvent is the resolvent.
use Rattle.clause_log.proofs.Common.{◌≡◌, ◌⊎◌, ◌↔◌, inl, inr, List, Option, Some, None, eqb, arith, sym, ap, subst, ◌∙◌, cases_Bool, eqb-true, Lit, IsClause, opposite_of, Has, joined, clashes, resolvent, Resolves, IsResolventOf}
use Rattle.clause_log.proofs.Joining.{rises-joined, resolvent-one}
use Rattle.clause_log.proofs.Membership.{opposite-opposite, from_joined, left_joined, right_joined, gone_joined, one_clash, only_clash, some_clash, same_members}

module _ (a b : List Lit) (p : IsClause a) (q : IsClause b) where
  members : (k : Lit) → Has a k → Has b (opposite_of k) → ((l : Lit) → Has a l → Has b (opposite_of l) → l ≡ k)
      → (l : Lit) → Has (joined a b) l ↔ ((Has a l ⊎ Has b l) × (l.variable ≡ k.variable → ⊥))
  members k h g only l = (
    (λ j. (from_joined a b l j, gone_joined 0 k l a b p q h g j)),
    λ m. elim m.0 [
      | inl s ↦ left_joined a b l s (λ t. m.1 (ap (λ (x : Lit). x.variable) (only l s t)))
      | inr s ↦ right_joined a b l (λ t. m.1 (ap (λ (x : Lit). x.variable)
          (only (opposite_of l) t (subst (λ (x : Lit). Has b x) (sym (opposite-opposite l)) s)))) s
    ],
  )

  computed : (c : List Lit) → resolvent a b ≡ Some c → (clashes a b ≡ 1) × (joined a b ≡ c)
  computed c e = elim (cases_Bool (eqb (clashes a b) 1)) [
    | inl h ↦ let is : Some (joined a b) ≡ Some c = rw h at e in (eqb-true _ _ h, let it : joined a b ≡ c = cc in it)
    | inr h ↦ let none = rw h at e in cc
  ]

  pub resolves-from : (c : List Lit) → resolvent a b ≡ Some c → Resolves a b c
  resolves-from c e = go (computed c e).0 (computed c e).1 (some_clash a b (λ z. let one = (computed c e).0 in omega (arith, one, z)))
    where
      go : clashes a b ≡ 1 → joined a b ≡ c → ((k : Lit) × Has a k × Has b (opposite_of k)) → Resolves a b c
      go one is (k, h, g) =
          let only = λ (l : Lit) (s : Has a l) (t : Has b (opposite_of l)). only_clash 0 k l a b p q h g s t one in
          record {
            pivot = k;
            left = h;
            right = g;
            only = only;
            ordered = subst (λ (x : List Lit). IsClause x) is (rises-joined 0 a b p q);
            literals = subst (λ (x : List Lit). (l : Lit) → Has x l ↔ ((Has a l ⊎ Has b l) × (l.variable ≡ k.variable → ⊥))) is (members k h g only);
          }

  pub resolves-to : (c : List Lit) → Resolves a b c → resolvent a b ≡ Some c
  resolves-to c r =
      let one = one_clash 0 r.pivot a b p q r.left r.right r.only in
      let m = members r.pivot r.left r.right r.only in
      let same = same_members 0 (joined a b) c (rises-joined 0 a b p q) r.ordered (λ l h. (r.literals l).1 ((m l).0 h)) (λ l h. (m l).1 ((r.literals l).0 h)) in
      resolvent-one a b one ∙ ap Some same

  -- the computed answer is the resolvent, or none where there is none
  pub resolved : (r : Option (List Lit)) → r ≡ resolvent a b → IsResolventOf a b r
  resolved (Some c) is = resolves-from c (sym is)
  resolved None is = λ c h. let it : resolvent a b ≡ Some c = resolves-to c h in cc

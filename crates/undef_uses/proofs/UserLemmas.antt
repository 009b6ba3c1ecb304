-- The lists of users as they are made, name by name.
use Rattle.std.proofs.Common.{◌≡◌, ◌⊎◌, ◌≢◌, ◌+◌, ◌<◌, ℕ, List, [], ◌∷◌, ◌++◌, length, inl, inr, sym, ◌∙◌, ap, subst, arith, Contains}
use Rattle.std.proofs.lemmas.Bool.{cases_eq}
use Rattle.undef_uses.specs.declared.carried.Carried.{Carried}
use Rattle.undef_uses.specs.Counts.{carried_at}
use Rattle.undef_uses.specs.Users.{AreUsers, HasUser, HasUsers, Mentions, users_at}

-- one after another
pub users_three : (a b c d : List (List ℕ)) (carried : Carried) (user : ℕ) → HasUser a b carried.first user → HasUser b c carried.second user → HasUser c d carried.third user → HasUsers a d carried user
users_three a b c d carried user first second third = record {
  long = third.long ∙ (second.long ∙ first.long);
  kept = λ name other found. third.kept name other (second.kept name other (first.kept name other found));
  added = λ name below m. by name below m;
  below = λ most least all. third.below most least (second.below most least (first.below most least all));
}
  where
    by : (name : ℕ) → name < length a → Mentions carried name → Contains (users_at d name) user
    by name below (inl is) = third.kept name user (second.kept name user (first.added name below is))
    by name below (inr (inl is)) = third.kept name user (second.added name (let long = first.long in omega (arith, below, long)) is)
    by name below (inr (inr is)) = third.added name (let long = first.long in let longer = second.long in omega (arith, below, long, longer)) is

pub users_more : (table : List Carried) (n : ℕ) (carried : Carried) (old new : List (List ℕ)) → n < length table → carried_at table n ≡ carried → AreUsers table n old → HasUsers old new carried n → AreUsers table (n + 1) new
users_more table n carried old new below is before has = record {
  long = has.long ∙ before.long;
  below = has.below (length table) below before.below;
  each = λ user name up within m. each user name (cases_eq user n) up within m;
}
  where
    each : (user name : ℕ) → (user ≡ n) ⊎ (user ≢ n) → user < n + 1 → name < length table → Mentions (carried_at table user) name → Contains (users_at new name) user
    each user name (inl same) up within m =
        let its : Mentions carried name = subst (λ (c : Carried). Mentions c name) (ap (carried_at table) same ∙ is) m in
        subst (λ (k : ℕ). Contains (users_at new name) k) (sym same) (has.added name (let long = before.long in omega (arith, within, long)) its)
    each user name (inr away) up within m = has.kept name user (before.each user name (omega (arith, up, away)) within m)

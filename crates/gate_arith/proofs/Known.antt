-- Bits that are known, and inputs.
use Rattle.gate_arith.proofs.Common.{ℕ, zero, suc, ◌≡◌, ◌<◌, ◌≤◌, ◌+◌, ◌*◌, ◌/◌, ◌%◌, ◌^◌, ◌++◌, inl, inr, Bool, false, List, [], ◌∷◌, Some, All, get_or, take, map, length, arith, sym, ap, subst, refl, ◌∙◌, length-append, nat_eq, bit_and, div-eq_of_lt, shr-shr, div-add-mod', cases_eq, map_push, append_assoc, append-nil, get_or_push, get_or_append_left, take_all, take-append-le, digit, GateId, Gate, gate_at, inputs_of, Grows, IsInput, Keeps, Makes, AreFresh, AreGates, Writes, number_at, number_of}
use Rattle.std.proofs.lemmas.Nat.Bits.{shr_and_one, bit_at-lt}
use Rattle.std.proofs.lemmas.Option.{slice_get_within, get_or_from_slice_get, slice_get-get_or}
use Rattle.gates.specs.declared.circuit.Gate.TheVariants.{Input}
use Rattle.gates.specs.Numbering.{AreApart}
use Rattle.gate_arith.proofs.Digits.{gates_later, gates_push, keeps_self, keeps_trans, map-grown, number-kept, number-push}

one_test : (n : ℕ) → n < 2 → digit (nat_eq n 1) ≡ n
one_test zero lt = refl
one_test (suc zero) lt = refl
one_test (suc (suc n)) lt = absurd (omega arith)

pub digit-one : (value place : ℕ) → digit (nat_eq (bit_and (value / 2 ^ place) 1) 1) ≡ value / 2 ^ place % 2
digit-one value place = rw (shr_and_one value place) (one_test (value / 2 ^ place % 2) (bit_at-lt value place))

-- the bits of a number from the most significant down to the index `place`
pub record IsPartConstant (old new : List Gate) (value width : ℕ) (digits : List GateId) (place : ℕ) : Type 0 where
  pub keeps : Keeps old new
  pub within : AreGates new digits
  pub long : length digits + place ≡ width
  pub says : (v : ℕ → Bool) → number_at v new digits ≡ value / 2 ^ place

pub no_constant : (old : List Gate) (value width : ℕ) (digits : List GateId) → digits ≡ [] → value < 2 ^ width → IsPartConstant old old value width digits width
no_constant old value width digits e lt = rw e (record {
  keeps = keeps_self old;
  within = λ i d l. absurd (omega arith);
  long = omega arith;
  says = λ v. sym (div-eq_of_lt lt);
})

pub constant-more : (old mid new : List Gate) (value width : ℕ) (digits digits' : List GateId) (one : GateId) (bit : Bool) (i j : ℕ) → i ≡ j + 1 → IsPartConstant old mid value width digits i
    → Keeps mid new → Makes new one (λ _. bit) → digit bit ≡ value / 2 ^ j % 2 → digits' ≡ digits ++ one ∷ [] → IsPartConstant old new value width digits' j
constant-more old mid new value width digits digits' one bit i j e part kept made is_bit is = rw is (record {
  keeps = keeps_trans old mid new part.keeps kept;
  within = gates_push new digits one (gates_later mid new digits kept.longer part.within) made.within;
  long = omega (arith, part.long, e, length-append digits (one ∷ []));
  says = λ v.
      let pushed : number_at v new (digits ++ one ∷ []) ≡ number_at v new digits * 2 + digit (gate_at v new one) =
      ap number_of (map_push (gate_at v new) digits one) ∙ number-push (map (gate_at v new) digits) (gate_at v new one) in
      let before : number_at v new digits ≡ value / 2 ^ j / 2 ^ 1 = number-kept mid new kept digits part.within v ∙ (part.says v ∙ (ap (λ k. value / 2 ^ k) e ∙ sym (shr-shr value j 1))) in
      let last : digit (gate_at v new one) ≡ value / 2 ^ j % 2 = ap digit (made.says v) ∙ is_bit in
      let whole : value / 2 ^ j / 2 * 2 + value / 2 ^ j % 2 ≡ value / 2 ^ j = div-add-mod' (value / 2 ^ j) 2 in
      pushed ∙ (ap (λ k. k * 2 + digit (gate_at v new one)) before ∙ (ap (λ k. value / 2 ^ j / 2 * 2 + k) last ∙ whole));
})

pub constant-whole : (old new : List Gate) (value width : ℕ) (digits : List GateId) (i : ℕ) → i ≡ 0 → IsPartConstant old new value width digits i → Writes new digits width (λ _. value)
constant-whole old new value width digits i e part = record {
  within = part.within;
  long = omega (arith, part.long, e);
  says = λ v. part.says v ∙ (ap (λ k. value / 2 ^ k) e ∙ (let one : value / 1 ≡ value = omega arith in one));
}

apart-push : (n : ℕ) (xs : List GateId) (y : GateId) → AreApart xs → All (λ a. a.index < n) xs → n ≤ y.index → AreApart (xs ++ y ∷ [])
apart-push n xs y apart below le i j a b lt ga gb =
    let wj : j < length (xs ++ y ∷ []) = slice_get_within (xs ++ y ∷ []) j b gb in
    let early : i < length xs = omega (arith, wj, length-append xs (y ∷ [])) in
    let first : get_or xs i y ≡ a = sym (get_or_append_left xs (y ∷ []) y i early) ∙ get_or_from_slice_get (xs ++ y ∷ []) i a y ga in
    elim (cases_eq j (length xs)) [
      | inl is ↦
          let last : y ≡ b = sym (get_or_push xs y y j (sym is)) ∙ get_or_from_slice_get (xs ++ y ∷ []) j b y gb in
          let small : a.index < n = subst (λ (g : GateId). g.index < n) first (below i y early) in
          let great : n ≤ b.index = subst (λ (g : GateId). n ≤ g.index) last le in
          λ same. omega (arith, small, great, same)
      | inr other ↦
          let late : j < length xs = omega (arith, other, wj, length-append xs (y ∷ [])) in
          let second : get_or xs j y ≡ b = sym (get_or_append_left xs (y ∷ []) y j late) ∙ get_or_from_slice_get (xs ++ y ∷ []) j b y gb in
          apart i j a b lt (slice_get-get_or xs i y early ∙ ap Some first) (slice_get-get_or xs j y late ∙ ap Some second)
    ]

all-push : (P : GateId → Type 0) (xs : List GateId) (y : GateId) → All P xs → P y → All P (xs ++ y ∷ [])
all-push P [] y h here zero d lt = here
all-push P [] y h here (suc k) d lt = absurd (omega arith)
all-push P (x ∷ xs) y h here zero d lt = h 0 x (omega arith)
all-push P (x ∷ xs) y h here (suc k) d lt = all-push P xs y (λ i e l. h (suc i) e (omega arith)) here k d (omega arith)

pub grows_self : (gs : List Gate) → Grows gs gs
grows_self gs = record { longer = omega arith; kept = λ v a lt. refl }

pub grows_trans : (a b c : List Gate) → Grows a b → Grows b c → Grows a c
grows_trans a b c p q = record {
  longer = omega (arith, p.longer, q.longer);
  kept = λ v x lt. q.kept v x (omega (arith, p.longer)) ∙ p.kept v x lt;
}

-- this number of the inputs
pub record ArePartFresh (old new : List Gate) (i : ℕ) (digits : List GateId) : Type 0 where
  pub grows : Grows old new
  pub front : take (length old) new ≡ old
  pub fresh : AreFresh old new i digits

pub none_fresh : (old : List Gate) (digits : List GateId) → digits ≡ [] → ArePartFresh old old 0 digits
none_fresh old digits e = rw e (record {
  grows = grows_self old;
  front = take_all (length old) old (omega arith);
  fresh = record {
    long = refl;
    plain = λ i d lt. absurd (omega arith);
    fresh = λ i d lt. absurd (omega arith);
    within = λ i d lt. absurd (omega arith);
    apart = λ i j a b lt ga gb. absurd (let x : ⊥ = cc in x);
    added = sym (append-nil (inputs_of old));
    says = λ v. refl;
  };
})

pub fresh-more : (old mid new : List Gate) (i : ℕ) (digits digits' : List GateId) (one : GateId) → ArePartFresh old mid i digits → new ≡ mid ++ Input (length mid) ∷ [] → Grows mid new → IsInput new one → one.index ≡ length mid
    → Makes new one (λ v. v (length mid)) → inputs_of new ≡ inputs_of mid ++ one.index ∷ [] → digits' ≡ digits ++ one ∷ [] → ArePartFresh old new (i + 1) digits'
fresh-more old mid new i digits digits' one part added grows input last made inputs is = rw is (record {
  grows = grows_trans old mid new part.grows grows;
  front = ap (take (length old)) added ∙ (take-append-le (length old) mid (Input (length mid) ∷ []) part.grows.longer ∙ part.front);
  fresh = record {
    long = omega (arith, part.fresh.long, length-append digits (one ∷ []));
    plain = all-push (λ a. a.negated ≡ false) digits one part.fresh.plain input.plain;
    fresh = all-push (λ a. length old ≤ a.index) digits one part.fresh.fresh (omega (arith, last, part.grows.longer));
    within = gates_push new digits one (gates_later mid new digits grows.longer part.fresh.within) made.within;
    apart = apart-push (length mid) digits one part.fresh.apart part.fresh.within (omega (arith, last));
    added = inputs ∙ (ap (λ xs. xs ++ one.index ∷ []) part.fresh.added ∙ (append_assoc (inputs_of old) (map (λ (a : GateId). a.index) digits) (one.index ∷ [])
        ∙ ap (λ xs. inputs_of old ++ xs) (sym (map_push (λ (a : GateId). a.index) digits one))));
    says = λ v. map_push (gate_at v new) digits one ∙ (ap (λ xs. xs ++ gate_at v new one ∷ []) (map-grown mid new grows digits part.fresh.within v ∙ part.fresh.says v)
        ∙ (ap (λ x. map (λ (a : GateId). v a.index) digits ++ x ∷ []) (made.says v ∙ ap v (sym last)) ∙ sym (map_push (λ (a : GateId). v a.index) digits one)));
  };
})

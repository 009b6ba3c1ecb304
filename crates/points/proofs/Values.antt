-- The next value of a type, and the next list of arguments.
use Rattle.points.proofs.Common.{◌≡◌, inl, inr, ℕ, zero, suc, ◌+◌, ◌-◌, ◌*◌, ◌^◌, ◌<◌, ◌≤◌, List, [], ◌∷◌, length, refl, sym, ap, ◌∙◌, arith, slice_get, Some, add-one, pow_mono, set, cases_eq, pow_pos, IrType, Int, Parameter, Ptr, Value, Num, Poison, Layout, number_of, PointerFits, ValueFits, ArgsFit, value_code, args_code, IsChain, IsNextValue, IsLastValue, value_number, IsNextArgs, IsLastArgs, args_number, least_value, least_from, pointer_number}
use Rattle.tv_num.specs.declared.Width.{Width}
use Rattle.ir_tree.specs.declared.tree.IrType.TheVariants as type
use Rattle.byte_block.specs.declared.value.Value.TheVariants as value
use Rattle.points.proofs.Order.{IsNextIn, IsLastIn, HaveDigits, next_in_back, next_in_front, last_in_both}
use Rattle.points.proofs.Args.{type_digits, digits_of, value_digits, args_digits}
use Rattle.points.proofs.ByteOrder.{pointer_at_most}
use Rattle.points.proofs.Rows.{zero_number}

-- ---- values

number_value : (layout : Layout) (w : Width) (n : ℕ) → value_number layout (Int w) (Num n) ≡ n
unfolding number_of
number_value layout w n = omega arith

poison_value : (layout : Layout) (w : Width) → value_number layout (Int w) Poison ≡ 2 ^ 64
unfolding number_of
poison_value layout w = omega arith

pointer_value : (layout : Layout) (p : Ptr) → value_number layout type.Ptr (value.Ptr p) ≡ pointer_number layout p
unfolding number_of
pointer_value layout p = omega arith

poison_pointer : (layout : Layout) → value_number layout type.Ptr Poison ≡ 2 ^ 128
unfolding number_of
poison_pointer layout = omega arith

number_small : (w : Width) (n : ℕ) → n < 2 ^ w.bits → n < 2 ^ 64
number_small w n fits = let most : 2 ^ w.bits ≤ 2 ^ 64 = pow_mono w.at_most_64 in omega (arith, most, fits)

pub next_number : (layout : Layout) (w : Width) (n : ℕ) → n + 1 < 2 ^ w.bits → IsNextValue layout (Int w) (Num n) (Num (n + 1))
next_number layout w n room = record {
  fits = room;
  later = rw (number_value layout w n, number_value layout w (n + 1)) (omega arith);
  no_gap = λ v fits less. (let e = number_value layout w n in let f = number_value layout w (n + 1) in omega (arith, e, f, less));
}

pub next_poison : (layout : Layout) (w : Width) (n : ℕ) → 2 ^ w.bits ≤ n + 1 → n < 2 ^ w.bits → IsNextValue layout (Int w) (Num n) Poison
next_poison layout w n full fit = record {
  fits = tt;
  later = (let small = number_small w n fit in let e = number_value layout w n in let f = poison_value layout w in omega (arith, small, e, f));
  no_gap = λ v. elim v as (λ v. ValueFits layout (Int w) v → value_number layout (Int w) v < value_number layout (Int w) Poison → value_number layout (Int w) v ≤ value_number layout (Int w) (Num n)) [
    | Num m ↦ λ fits less. (let e = number_value layout w n in let f = number_value layout w m in omega (arith, e, f, fits))
    | Poison ↦ λ fits less. absurd (omega (arith, less))
    | value.Ptr p ↦ λ fits less. absurd fits
  ];
}

pub last_poison : (layout : Layout) (w : Width) → IsLastValue layout (Int w) Poison
last_poison layout w = λ v. elim v as (λ v. ValueFits layout (Int w) v → value_number layout (Int w) v ≤ value_number layout (Int w) Poison) [
  | Num m ↦ λ fits. (let small = number_small w m fits in let e = number_value layout w m in let f = poison_value layout w in omega (arith, small, e, f))
  | Poison ↦ λ fits. omega arith
  | value.Ptr p ↦ λ fits. absurd fits
]

pub next_pointer_value : (layout : Layout) (p q : Ptr) → PointerFits layout q → pointer_number layout q ≡ pointer_number layout p + 1 → IsNextValue layout type.Ptr (value.Ptr p) (value.Ptr q)
next_pointer_value layout p q fits one_more = record {
  fits = fits;
  later = (let e = pointer_value layout p in let f = pointer_value layout q in omega (arith, e, f, one_more));
  no_gap = λ v fit less. (let e = pointer_value layout p in let f = pointer_value layout q in omega (arith, e, f, one_more, less));
}

pub next_poison_pointer : (layout : Layout) (p : Ptr) → layout.blocks < 2 ^ 64 → pointer_number layout p + 1 ≡ (layout.blocks + 1) * 2 ^ 64 → IsNextValue layout type.Ptr (value.Ptr p) Poison
next_poison_pointer layout p few all = record {
  fits = tt;
  later = (let e = pointer_value layout p in let f = poison_pointer layout in omega (arith, e, f, all, few));
  no_gap = λ v. elim v as (λ v. ValueFits layout type.Ptr v → value_number layout type.Ptr v < value_number layout type.Ptr Poison → value_number layout type.Ptr v ≤ value_number layout type.Ptr (value.Ptr p)) [
    | Num m ↦ λ fits less. absurd fits
    | Poison ↦ λ fits less. absurd (omega (arith, less))
    | value.Ptr r ↦ λ fits less. (let e = pointer_value layout p in let f = pointer_value layout r in let most = pointer_at_most layout r fits in omega (arith, e, f, most, all))
  ];
}

pub last_poison_pointer : (layout : Layout) → layout.blocks < 2 ^ 64 → IsLastValue layout type.Ptr Poison
last_poison_pointer layout few = λ v. elim v as (λ v. ValueFits layout type.Ptr v → value_number layout type.Ptr v ≤ value_number layout type.Ptr Poison) [
  | Num m ↦ λ fits. absurd fits
  | Poison ↦ λ fits. omega arith
  | value.Ptr r ↦ λ fits. (let e = poison_pointer layout in let f = pointer_value layout r in let most = pointer_at_most layout r fits in omega (arith, e, f, most, few))
]

pub least_fits : (layout : Layout) (t : IrType) → ValueFits layout t (least_value t)
least_fits layout (Int w) = pow_pos w.bits
least_fits layout type.Ptr = record { block = tt; offset = omega arith }

pub least_number : (layout : Layout) (t : IrType) → value_number layout t (least_value t) ≡ 0
unfolding number_of
least_number layout (Int w) = omega arith
least_number layout type.Ptr = omega arith

-- ---- chains of values

pub record IsValueOf (layout : Layout) (t : IrType) (ds : List ℕ) : Type 0 where
  pub value : Value
  pub is : ds ≡ value_code layout t value
  pub fits : ValueFits layout t value

pub record IsArgsOf (layout : Layout) (ps : List Parameter) (ds : List ℕ) : Type 0 where
  pub args : List Value
  pub is : ds ≡ args_code layout ps args
  pub fits : ArgsFit layout ps args

abbrev pub Behind : Layout → List Parameter → List ℕ → List ℕ → Type 0
Behind layout ps first ds = IsArgsOf layout ps ds

have_digits : (layout : Layout) (t : IrType) (ps : List Parameter) → layout.blocks < 2 ^ 64 → HaveDigits (IsValueOf layout t) (Behind layout ps) (type_digits t) (digits_of ps)
have_digits layout t ps few = record {
  front = λ xs h. rw h.is (value_digits layout t h.value few h.fits);
  back = λ xs ys h. rw h.is (args_digits layout ps h.args few h.fits);
}

chain_of_args : (layout : Layout) (p : Parameter) (ps : List Parameter) (ds : List ℕ) → IsArgsOf layout (p ∷ ps) ds → IsChain (IsValueOf layout p.of_type) (Behind layout ps) ds
chain_of_args layout p ps ds h =
    elim h.args as (λ args. ds ≡ args_code layout (p ∷ ps) args → ArgsFit layout (p ∷ ps) args → IsChain (IsValueOf layout p.of_type) (Behind layout ps) ds) [
      | [] ↦ λ is fits. absurd fits
      | v ∷ vs ↦ λ is fits. record { front = value_code layout p.of_type v; back = args_code layout ps vs; whole = is; in_front = record { value = v; is = refl; fits = fits.0 }; in_back = record { args = vs; is = refl; fits = fits.1 } }
    ]
    h.is h.fits

leasts_fit : (layout : Layout) (ps : List Parameter) (vs : List Value) → ArgsFit layout ps vs → ArgsFit layout ps (least_from ps zero vs)
leasts_fit layout [] [] fits = tt
leasts_fit layout (p ∷ ps) (v ∷ vs) fits = (least_fits layout p.of_type, leasts_fit layout ps vs fits.1)
leasts_fit layout [] (v ∷ vs) fits = absurd fits
leasts_fit layout (p ∷ ps) [] fits = absurd fits

leasts_number : (layout : Layout) (ps : List Parameter) (vs : List Value) → ArgsFit layout ps vs → args_number layout ps (least_from ps zero vs) ≡ 0
unfolding number_of
leasts_number layout [] [] fits = refl
leasts_number layout (p ∷ ps) (v ∷ vs) fits = zero_number (value_code layout p.of_type (least_value p.of_type)) (args_code layout ps (least_from ps zero vs)) (least_number layout p.of_type) (leasts_number layout ps vs fits.1)
leasts_number layout [] (v ∷ vs) fits = absurd fits
leasts_number layout (p ∷ ps) [] fits = absurd fits

-- ---- the next list of arguments

-- the arguments from the index on are the last of their types
abbrev pub AreLastValuesFrom : Layout → List Parameter → List Value → ℕ → Type 0
AreLastValuesFrom layout ps vs i = (k : ℕ) (p : Parameter) (v : Value) → i ≤ k → slice_get ps k ≡ Some p → slice_get vs k ≡ Some v → IsLastValue layout p.of_type v

-- the argument at the index as it is to be, and least values after it
abbrev pub raised_values : List Parameter → List Value → ℕ → Value → List Value
raised_values [] vs i new = vs
raised_values (p ∷ ps) [] i new = []
raised_values (p ∷ ps) (v ∷ vs) zero new = new ∷ least_from ps zero vs
raised_values (p ∷ ps) (v ∷ vs) (suc i) new = v ∷ raised_values ps vs i new

raised_values_are : (ps : List Parameter) (vs : List Value) (i : ℕ) (new : Value) → i < length ps → least_from ps (i + 1) (set vs i new) ≡ raised_values ps vs i new
raised_values_are [] vs i new below = absurd (omega (arith, below))
raised_values_are (p ∷ ps) [] i new below = refl
raised_values_are (p ∷ ps) (v ∷ vs) zero new below = refl
raised_values_are (p ∷ ps) (v ∷ vs) (suc i) new below = rw add-one (ap (λ us. v ∷ us) (rw add-one at (raised_values_are ps vs i new (omega (arith, below)))))

last_values : (layout : Layout) (ps : List Parameter) (vs : List Value) → layout.blocks < 2 ^ 64 → ArgsFit layout ps vs → AreLastValuesFrom layout ps vs 0 → IsLastIn (IsArgsOf layout ps) (args_code layout ps vs)
last_values layout [] [] few fits last = λ ds code. rw code.is (omega arith)
last_values layout (p ∷ ps) (v ∷ vs) few fits last = λ ds code.
    last_in_both (IsValueOf layout p.of_type) (Behind layout ps) (type_digits p.of_type) (digits_of ps) (value_code layout p.of_type v) (args_code layout ps vs) (have_digits layout p.of_type ps few)
    (record { value = v; is = refl; fits = fits.0 }) (record { args = vs; is = refl; fits = fits.1 })
    (λ zs one. rw one.is (last 0 p v (omega arith) refl refl one.value one.fits))
    (last_values layout ps vs few fits.1 (λ k p' v' from e e'. last (suc k) p' v' (omega arith) e e'))
    ds (chain_of_args layout p ps ds code)
last_values layout [] (v ∷ vs) few fits last = absurd fits
last_values layout (p ∷ ps) [] few fits last = absurd fits

raised_values_fit : (layout : Layout) (ps : List Parameter) (vs : List Value) (i : ℕ) (p : Parameter) (new : Value) → ArgsFit layout ps vs → slice_get ps i ≡ Some p → ValueFits layout p.of_type new → ArgsFit layout ps (raised_values ps vs i new)
raised_values_fit layout [] [] i p new fits e new_fits = tt
raised_values_fit layout (p ∷ ps) (v ∷ vs) zero p' new fits e new_fits = let same : p' ≡ p = cc in ((rw (← same) new_fits), leasts_fit layout ps vs fits.1)
raised_values_fit layout (p ∷ ps) (v ∷ vs) (suc i) p' new fits e new_fits = (fits.0, raised_values_fit layout ps vs i p' new fits.1 e new_fits)
raised_values_fit layout [] (v ∷ vs) i p new fits e new_fits = absurd fits
raised_values_fit layout (p ∷ ps) [] i p' new fits e new_fits = absurd fits

next_code : (layout : Layout) (t : IrType) (v new : Value) → IsNextValue layout t v new → IsNextIn (IsValueOf layout t) (value_code layout t v) (value_code layout t new)
next_code layout t v new next = record { later = next.later; no_gap = λ ds code less. let less' = rw code.is at less in rw code.is (next.no_gap code.value code.fits less') }

next_values_at : (layout : Layout) (ps : List Parameter) (vs : List Value) (i : ℕ) (p : Parameter) (v new : Value) → layout.blocks < 2 ^ 64 → ArgsFit layout ps vs → slice_get ps i ≡ Some p → slice_get vs i ≡ Some v → IsNextValue layout p.of_type v new → AreLastValuesFrom layout ps vs (suc i) → IsNextIn (IsArgsOf layout ps) (args_code layout ps vs) (args_code layout ps (raised_values ps vs i new))
next_values_at layout [] vs i p v new few fits e e' next last = absurd (cc)
next_values_at layout (p ∷ ps) (v ∷ vs) zero p' v' new few fits e e' next last =
    let same : p' ≡ p = cc in
    let same' : v' ≡ v = cc in
    let next' : IsNextValue layout p.of_type v new = rw (← same, ← same') next in
    let chain = next_in_front (IsValueOf layout p.of_type) (Behind layout ps) (type_digits p.of_type) (digits_of ps) (value_code layout p.of_type v) (value_code layout p.of_type new) (args_code layout ps vs) (args_code layout ps (least_from ps zero vs)) (have_digits layout p.of_type ps few)
    (record { value = v; is = refl; fits = fits.0 }) (record { value = new; is = refl; fits = next'.fits }) (record { args = vs; is = refl; fits = fits.1 })
    (record { args = least_from ps zero vs; is = refl; fits = leasts_fit layout ps vs fits.1 })
    (next_code layout p.of_type v new next')
    (last_values layout ps vs few fits.1 (λ k p'' v'' from f f'. last (suc k) p'' v'' (omega arith) f f'))
    (λ zs _. rw (leasts_number layout ps vs fits.1) (omega arith)) in
    record { later = chain.later; no_gap = λ ds code less. chain.no_gap ds (chain_of_args layout p ps ds code) less }
next_values_at layout (p ∷ ps) (v ∷ vs) (suc i) p' v' new few fits e e' next last =
    let chain = next_in_back (IsValueOf layout p.of_type) (Behind layout ps) (type_digits p.of_type) (digits_of ps) (value_code layout p.of_type v) (args_code layout ps vs) (args_code layout ps (raised_values ps vs i new)) (have_digits layout p.of_type ps few)
    (record { value = v; is = refl; fits = fits.0 }) (record { args = vs; is = refl; fits = fits.1 })
    (record { args = raised_values ps vs i new; is = refl; fits = raised_values_fit layout ps vs i p' new fits.1 e next.fits })
    (next_values_at layout ps vs i p' v' new few fits.1 e e' next (λ k p'' v'' from f f'. last (suc k) p'' v'' (omega arith) f f')) in
    record { later = chain.later; no_gap = λ ds code less. chain.no_gap ds (chain_of_args layout p ps ds code) less }
next_values_at layout (p ∷ ps) [] i p' v' new few fits e e' next last = absurd fits

-- ---- the loops

pub values_last_more : (layout : Layout) (ps : List Parameter) (vs : List Value) (i : ℕ) (p : Parameter) (v : Value) → 0 < i → AreLastValuesFrom layout ps vs i → slice_get ps (i - 1) ≡ Some p → slice_get vs (i - 1) ≡ Some v → IsLastValue layout p.of_type v → AreLastValuesFrom layout ps vs (i - 1)
values_last_more layout ps vs i p v positive last e e' here = λ k p' v' from f f'.
    elim (cases_eq k (i - 1)) as (λ _. IsLastValue layout p'.of_type v') [
      | inl same ↦
          let g = rw same at f in let g' = rw same at f' in
          let same_p : p ≡ p' = cc in let same_v : v ≡ v' = cc in
          rw (← same_p, ← same_v) here
      | inr apart ↦ last k p' v' (omega (arith, apart)) f f'
    ]

pub value_fits_at : (layout : Layout) (ps : List Parameter) (vs : List Value) (i : ℕ) (p : Parameter) (v : Value) → ArgsFit layout ps vs → slice_get ps i ≡ Some p → slice_get vs i ≡ Some v → ValueFits layout p.of_type v
value_fits_at layout [] vs i p v fits e e' = absurd (cc)
value_fits_at layout (p' ∷ ps) (v' ∷ vs) zero p v fits e e' = let same : p' ≡ p = cc in let same_v : v' ≡ v = cc in rw (← same, ← same_v) fits.0
value_fits_at layout (p' ∷ ps) (v' ∷ vs) (suc i) p v fits e e' = value_fits_at layout ps vs i p v fits.1 e e'
value_fits_at layout (p' ∷ ps) [] i p v fits e e' = absurd fits

pub next_values_is : (layout : Layout) (ps : List Parameter) (vs old set_vs result : List Value) (i : ℕ) (p : Parameter) (v new : Value) → layout.blocks < 2 ^ 64 → vs ≡ old → ArgsFit layout ps old → i < length ps → slice_get ps i ≡ Some p → slice_get vs i ≡ Some v → IsNextValue layout p.of_type v new → AreLastValuesFrom layout ps vs (i + 1) → set_vs ≡ set vs i new → result ≡ least_from ps (i + 1) set_vs → IsNextArgs layout ps old result
next_values_is layout ps vs old set_vs result i p v new few same fits below e e' next last raise leasts =
    let f' = rw same at e' in
    let last' = rw (same, add-one) at last in
    let is : result ≡ raised_values ps old i new = leasts ∙ rw (raise, same) (raised_values_are ps old i new below) in
    let code = next_values_at layout ps old i p v new few fits e f' next last' in
    rw is (record { fits = raised_values_fit layout ps old i p new fits e next.fits; later = code.later; no_gap = λ args args_fit less. code.no_gap (args_code layout ps args) (record { args = args; is = refl; fits = args_fit }) less })

pub last_values_are : (layout : Layout) (ps : List Parameter) (vs old : List Value) (i : ℕ) → layout.blocks < 2 ^ 64 → vs ≡ old → ArgsFit layout ps old → AreLastValuesFrom layout ps vs i → i ≤ 0 → IsLastArgs layout ps old
last_values_are layout ps vs old i few same fits last none = λ args args_fit.
    let last' = rw same at last in
    last_values layout ps old few fits (λ k p v from e e'. last' k p v (omega arith) e e') (args_code layout ps args) (record { args = args; is = refl; fits = args_fit })

pub least_from-set : (ps : List Parameter) (vs : List Value) (i : ℕ) (p : Parameter) → slice_get ps i ≡ Some p → least_from ps (i + 1) (set vs i (least_value p.of_type)) ≡ least_from ps i vs
least_from-set [] vs i p e = absurd (cc)
least_from-set (q ∷ ps) [] i p e = refl
least_from-set (q ∷ ps) (v ∷ vs) zero p e = let same : q ≡ p = cc in ap (λ (r : Parameter). least_value r.of_type ∷ least_from ps zero vs) (sym same)
least_from-set (q ∷ ps) (v ∷ vs) (suc i) p e = rw add-one (ap (λ us. v ∷ us) (rw add-one at (least_from-set ps vs i p e)))

pub least_from-past : (ps : List Parameter) (vs : List Value) (i : ℕ) → length ps ≤ i → least_from ps i vs ≡ vs
least_from-past [] vs i past = refl
least_from-past (p ∷ ps) [] i past = refl
least_from-past (p ∷ ps) (v ∷ vs) zero past = absurd (omega (arith, past))
least_from-past (p ∷ ps) (v ∷ vs) (suc i) past = ap (λ us. v ∷ us) (least_from-past ps vs i (omega (arith, past)))

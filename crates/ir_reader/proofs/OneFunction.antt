-- The tokens of a define are one function, or are refused in one way; a text is one module.
use Rattle.ir_reader.proofs.Common.{◌≡◌, ℕ, ◌⊎◌, true, List, [], ◌∷◌, length, inl, inr, refl, sym, ap, subst, ◌∙◌, Result, Ok, Err, Place, Lexeme, Spot, Define, IsCut, IsStop, IsWellFormed, IsRefusedAt, Reason, Limit, Refused, Entry, Function, Reading, reads, stops, limit, read, read-again, read-found, limit-again, WrittenFunction, reason, define, numbered, IsFunction, well_formed, tested, unfit, past, IsUnfit, refused_at, stop_place, without_places, IsModule, IsFault, AreEntries, tokens_of, place_or_end}
use Rattle.std.specs.List.{slice_get}
use Rattle.ir_items.specs.declared.fault.Why.{Why}
use Rattle.ir_items.proofs.OneCut.{one_cut, cut_apart, one_stop_of_all}
use Rattle.ir_tree.specs.declared.module.Module.{Module}
use Rattle.ir_tree.proofs.Refusals.{one_refusal, never_well_formed}
use Rattle.token_forms.specs.Form.{unfit as unfit_why}
use Rattle.ir_reader.proofs.StopReasons.{one-unfit, unfit-behind, unfit-limit, unfit-whole, unfit-why}
use Rattle.ir_reader.specs.declared.fault.ModuleFault.{ModuleFault}
use Rattle.ir_reader.specs.declared.fault.ModuleFault.TheVariants as fault

-- what is reported of a stop
abbrev told_of : Reason → List Lexeme → List Lexeme → Result Function Refused
told_of why tokens rest = Err (refused_at why (stop_place tokens rest))

-- what a function that is spelled is
abbrev IsTested : WrittenFunction → Result Function Refused → Type 0
IsTested w a = ((a ≡ Ok (without_places (numbered w))) × IsWellFormed (numbered w)) ⊎ ((why : Reason) × (refused : Refused) × (a ≡ Err refused) × IsRefusedAt why (numbered w) refused)

-- what the tokens are, by how they are read
abbrev IsTold : Reading WrittenFunction → List Lexeme → Result Function Refused → Type 0
IsTold (reads w []) tokens a = IsTested w a
IsTold (reads w (t ∷ others)) tokens a = a ≡ told_of (reason t) tokens (t ∷ others)
IsTold (stops (unfit_why why) rest) tokens a = a ≡ told_of why tokens rest
IsTold (stops limit rest) tokens a = a ≡ told_of Limit tokens rest

same-told : (tokens r s : List Lexeme) (a b : Reason) → (r ≡ s) × (a ≡ b) → told_of a tokens r ≡ told_of b tokens s
same-told tokens r s a b (rest, why) = ap (λ (us : List Lexeme). told_of a tokens us) rest ∙ ap (λ (w : Reason). told_of w tokens s) why

unfit-told : (tokens rest : List Lexeme) (why : Reason) → IsUnfit why tokens rest → (z : Reading WrittenFunction) → read true define tokens ≡ z → IsTold z tokens (told_of why tokens rest)
unfit-told tokens rest why U (reads w []) e = absurd (unfit-whole tokens rest why w U e)
unfit-told tokens rest why U (reads w (t ∷ others)) e = same-told tokens rest (t ∷ others) why (reason t) (one-unfit tokens rest (t ∷ others) why (reason t) U (unfit-behind tokens w t others (read-found true define tokens w (t ∷ others) e)))
unfit-told tokens rest why U (stops (unfit_why other) left) e = same-told tokens rest left why other (one-unfit tokens rest left why other U (unfit-why tokens left other e))
unfit-told tokens rest why U (stops limit left) e = absurd (unfit-limit tokens rest left why U e)

is-told : (tokens : List Lexeme) (a : Result Function Refused) → IsFunction tokens a → IsTold (read true define tokens) tokens a
is-told tokens _ (well_formed w s W) = subst (λ (r : Reading WrittenFunction). IsTold r tokens (Ok (without_places (numbered w)))) (sym (read-again true define tokens w [] s)) (inl (refl, W))
is-told tokens _ (tested w why refused s R) = subst (λ (r : Reading WrittenFunction). IsTold r tokens (Err refused)) (sym (read-again true define tokens w [] s)) (inr (why, refused, refl, R))
is-told tokens _ (unfit why rest U) = unfit-told tokens rest why U (read true define tokens) refl
is-told tokens _ (past rest P) = subst (λ (r : Reading WrittenFunction). IsTold r tokens (told_of Limit tokens rest)) (sym (limit-again define tokens rest P.passes)) refl

one-told : (r : Reading WrittenFunction) (tokens : List Lexeme) (a b : Result Function Refused) → IsTold r tokens a → IsTold r tokens b → a ≡ b
one-told (reads w []) tokens a b (inl (e, W)) (inl (f, V)) = e ∙ sym f
one-told (reads w []) tokens a b (inl (e, W)) (inr (why, refused, f, R)) = absurd (never_well_formed (numbered w) why refused R W)
one-told (reads w []) tokens a b (inr (why, refused, e, R)) (inl (f, W)) = absurd (never_well_formed (numbered w) why refused R W)
one-told (reads w []) tokens a b (inr (why, refused, e, R)) (inr (other, told, f, S)) = e ∙ ap (λ (x : Refused). let y : Result Function Refused = Err x in y) (one_refusal (numbered w) why other refused told R S) ∙ sym f
one-told (reads w (t ∷ others)) tokens a b e f = e ∙ sym f
one-told (stops (unfit_why why) rest) tokens a b e f = e ∙ sym f
one-told (stops limit rest) tokens a b e f = e ∙ sym f

pub one_function : (tokens : List Lexeme) (a b : Result Function Refused) → IsFunction tokens a → IsFunction tokens b → a ≡ b
one_function tokens a b F G = one-told (read true define tokens) tokens a b (is-told tokens a F) (is-told tokens b G)

-- ---- the module

entry-is : (x y : Entry) → x.name ≡ y.name → x.function ≡ y.function → x ≡ y
entry-is x y e f = let p : (let a : Entry = record { name = x.name; function = x.function } in a) ≡ (let b : Entry = record { name = y.name; function = y.function } in b) = rw (e, f) refl in p

one-entries : (tokens : List Lexeme) (defines : List Define) (xs ys : List Entry) → AreEntries tokens defines xs → AreEntries tokens defines ys → xs ≡ ys
one-entries tokens [] [] [] E F = refl
one-entries tokens [] [] (y ∷ ys) E F = absurd F
one-entries tokens [] (x ∷ xs) ys E F = absurd E
one-entries tokens (d ∷ ds) [] ys E F = absurd E
one-entries tokens (d ∷ ds) (x ∷ xs) [] E F = absurd F
one-entries tokens (d ∷ ds) (x ∷ xs) (y ∷ ys) (E, Es) (F, Fs) =
    let same : x ≡ y = entry-is x y (E.name ∙ sym F.name) (one_function (tokens_of tokens d) x.function y.function E.function F.function) in
    ap (λ (z : Entry). z ∷ xs) same ∙ ap (λ (zs : List Entry). y ∷ zs) (one-entries tokens ds xs ys Es Fs)

same-tokens : (r : Result (List Lexeme) Spot) (ts us : List Lexeme) → r ≡ Ok ts → r ≡ Ok us → ts ≡ us
same-tokens r ts us a b = let both : Ok ts ≡ Ok us = sym a ∙ b in cc both

pub one_module : (text : List ℕ) (m n : Module) → IsModule text m → IsModule text n → m ≡ n
one_module text m n M N =
    let tokens : M.tokens ≡ N.tokens = same-tokens _ _ _ M.lexed_so N.lexed_so in
    let cut = subst (λ (ts : List Lexeme). IsCut ts (length ts) M.defines) tokens M.cut in
    let entries = subst (λ (ts : List Lexeme). AreEntries ts M.defines m.entries) tokens M.entries in
    let defines : M.defines ≡ N.defines = one_cut N.tokens M.defines N.defines cut N.cut in
    let same : m.entries ≡ n.entries = one-entries N.tokens N.defines m.entries n.entries (subst (λ (ds : List Define). AreEntries N.tokens ds m.entries) defines entries) N.entries in
    ap (λ (es : List Entry). let x : Module = record { entries = es } in x) same

-- ---- the fault

apart-lexed : (r : Result (List Lexeme) Spot) (ts : List Lexeme) (spot : Spot) → r ≡ Ok ts → r ≡ Err spot → ⊥
apart-lexed r ts spot a b = let both : Ok ts ≡ Err spot = sym a ∙ b in absurd (cc both)

same-spot : (r : Result (List Lexeme) Spot) (s t : Spot) → r ≡ Err s → r ≡ Err t → s ≡ t
same-spot r s t a b = let both : Err s ≡ Err t = sym a ∙ b in cc both

pub module_or_fault : (text : List ℕ) (m : Module) (f : ModuleFault) → IsModule text m → IsFault text f → f ≡ fault.NoMemory
module_or_fault text m (fault.NoToken place) M F = absurd (apart-lexed _ M.tokens F.spot M.lexed_so F.lexed_so)
module_or_fault text m (fault.Item why place) M F =
    let tokens : M.tokens ≡ F.tokens = same-tokens _ _ _ M.lexed_so F.lexed_so in
    absurd (cut_apart F.tokens M.defines F.at why (subst (λ (ts : List Lexeme). IsCut ts (length ts) M.defines) tokens M.cut) F.stop)
module_or_fault text m fault.NoMemory M F = refl

pub one_fault : (text : List ℕ) (f g : ModuleFault) → IsFault text f → IsFault text g → (f ≡ g) ⊎ (f ≡ fault.NoMemory) ⊎ (g ≡ fault.NoMemory)
one_fault text fault.NoMemory g F G = inr (inl refl)
one_fault text (fault.NoToken p) fault.NoMemory F G = inr (inr refl)
one_fault text (fault.Item why p) fault.NoMemory F G = inr (inr refl)
one_fault text (fault.NoToken p) (fault.NoToken q) F G =
    let spots : F.spot ≡ G.spot = same-spot _ _ _ F.lexed_so G.lexed_so in
    inl (ap (λ (x : Place). fault.NoToken x) (F.is ∙ ap (λ (s : Spot). s.place) spots ∙ sym G.is))
one_fault text (fault.NoToken p) (fault.Item why q) F G = absurd (apart-lexed _ G.tokens F.spot G.lexed_so F.lexed_so)
one_fault text (fault.Item why p) (fault.NoToken q) F G = absurd (apart-lexed _ F.tokens G.spot F.lexed_so G.lexed_so)
one_fault text (fault.Item why p) (fault.Item other q) F G =
    let tokens : F.tokens ≡ G.tokens = same-tokens _ _ _ F.lexed_so G.lexed_so in
    let both = one_stop_of_all G.tokens F.at G.at why other (subst (λ (ts : List Lexeme). IsStop ts F.at why) tokens F.stop) G.stop in
    let places : p ≡ q = F.is ∙ ap (λ (ts : List Lexeme). place_or_end text (slice_get ts F.at)) tokens ∙ ap (λ (at : ℕ). place_or_end text (slice_get G.tokens at)) both.0 ∙ sym G.is in
    inl (ap (λ (w : Why). fault.Item w p) both.1 ∙ ap (λ (x : Place). fault.Item other x) places)

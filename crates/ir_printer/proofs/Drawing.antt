-- What is drawn, step by step.
use Rattle.ir_printer.proofs.Common.{◌≡◌, ◌<◌, ◌+◌, ◌-◌, ◌*◌, ℕ, suc, Bool, List, [], ◌∷◌, ◌++◌, ap, ◌∙◌, sym, append_assoc, arith, codes, fold, ◌&&◌, ◌==◌, decimal, with_name, Name, Word, Inst, Entry, drawn, made_binary, made_entries, made_entry, made_inst, made_insts, result_names, state_behind}

one_left : (n i : ℕ) → i < n → n - i ≡ suc (n - (i + 1))
one_left n i lt = omega arith

pub names_more : (insts i : ℕ) (names new all : List Name) → i < insts → new ≡ with_name names (Word (codes "r" ++ decimal i))
    → fold with_name names (result_names (insts - i) i) ≡ all → fold with_name new (result_names (insts - (i + 1)) (i + 1)) ≡ all
names_more insts i names new all lt is h =
    ap (λ z. fold with_name z (result_names (insts - (i + 1)) (i + 1))) is ∙ sym (ap (λ n. fold with_name names (result_names n i)) (one_left insts i lt)) ∙ h

pub state_more : (insts i x next total : ℕ) → i < insts → next ≡ state_behind 4 x → state_behind (4 * (insts - i)) x ≡ total → state_behind (4 * (insts - (i + 1))) next ≡ total
state_more insts i x next total lt is h =
    let n = 4 * (insts - (i + 1)) in
    let e : 4 * (insts - i) ≡ suc (suc (suc (suc n))) = omega arith in
    ap (state_behind n) is ∙ sym (ap (λ k. state_behind k x) e) ∙ h

pub drawn_inst : (in_target exchanged : Bool) (i x op left right : ℕ) → op ≡ drawn 5 (state_behind 1 x) → left ≡ drawn (i + 2) (state_behind 2 x) → right ≡ drawn (i + 2) (state_behind 3 x)
    → exchanged ≡ (drawn 4 (state_behind 4 x) == 3) → made_binary (in_target && exchanged) i op left right ≡ made_inst in_target i x
drawn_inst in_target exchanged i x op left right a b c d =
    ap (λ e. made_binary (in_target && e) i op left right) d
    ∙ ap (λ o. made_binary (in_target && drawn 4 (state_behind 4 x) == 3) i o left right) a
    ∙ ap (λ l. made_binary (in_target && drawn 4 (state_behind 4 x) == 3) i (drawn 5 (state_behind 1 x)) l right) b
    ∙ ap (λ r. made_binary (in_target && drawn 4 (state_behind 4 x) == 3) i (drawn 5 (state_behind 1 x)) (drawn (i + 2) (state_behind 2 x)) r) c

pub insts_more : (in_target : Bool) (insts i x next : ℕ) (inst : Inst) (made new all : List Inst) → i < insts → next ≡ state_behind 4 x → inst ≡ made_inst in_target i x → new ≡ made ++ inst ∷ []
    → made ++ made_insts in_target (insts - i) i x ≡ all → new ++ made_insts in_target (insts - (i + 1)) (i + 1) next ≡ all
insts_more in_target insts i x next inst made new all lt state is added h =
    let rest = made_insts in_target (insts - (i + 1)) (i + 1) in
    ap (λ t. t ++ rest next) added ∙ append_assoc made (inst ∷ []) (rest next) ∙ ap (λ s. made ++ inst ∷ rest s) state ∙ ap (λ t. made ++ t ∷ rest (state_behind 4 x)) is
    ∙ sym (ap (λ n. made ++ made_insts in_target n i x) (one_left insts i lt)) ∙ h

pub entries_more : (in_target : Bool) (insts functions k x next : ℕ) (entry : Entry) (made new all : List Entry) → k < functions → next ≡ state_behind (4 * insts) x → entry ≡ made_entry in_target insts k x
    → new ≡ made ++ entry ∷ [] → made ++ made_entries in_target insts (functions - k) k x ≡ all → new ++ made_entries in_target insts (functions - (k + 1)) (k + 1) next ≡ all
entries_more in_target insts functions k x next entry made new all lt state is added h =
    let rest = made_entries in_target insts (functions - (k + 1)) (k + 1) in
    ap (λ t. t ++ rest next) added ∙ append_assoc made (entry ∷ []) (rest next) ∙ ap (λ s. made ++ entry ∷ rest s) state ∙ ap (λ t. made ++ t ∷ rest (state_behind (4 * insts) x)) is
    ∙ sym (ap (λ n. made ++ made_entries in_target insts n k x) (one_left functions k lt)) ∙ h

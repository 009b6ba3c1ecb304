-- The functions of a module's entries, entry by entry.
use Rattle.ir_printer.proofs.Common.{◌≡◌, ◌<◌, ◌≤◌, ◌+◌, ℕ, Bool, true, List, [], ◌∷◌, ◌++◌, length, drop, get_or, refl, ap, ◌∙◌, sym, append_assoc, append-nil, Result, Ok, Err, at_drop_all, drop_more, Entry, text_of, accepted, accepted_first, function_pieces, functions_pieces, gap_behind, has_any}
use Rattle.ir_tree.specs.declared.module.Refused.{Refused}
use Rattle.ir_tree.specs.declared.tree.Function.{Function}
use Rattle.ir_printer.proofs.Texts.{text_of-append}

pieces-first : (b : Bool) (r : Result Function Refused) (fs : List Function)
    → functions_pieces b (accepted_first r fs) ≡ functions_pieces b (accepted_first r []) ++ functions_pieces (has_any b (accepted_first r [])) fs
pieces-first b (Ok f) fs = ap (λ ps. ps ++ functions_pieces true fs) (sym (append-nil (function_pieces (gap_behind b) f)))
pieces-first b (Err e) fs = refl

any-first : (b : Bool) (r : Result Function Refused) (fs : List Function) → has_any b (accepted_first r fs) ≡ has_any (has_any b (accepted_first r [])) fs
any-first b (Ok f) [] = refl
any-first b (Ok f) (g ∷ fs) = refl
any-first b (Err e) fs = refl

abbrev left : List Entry → ℕ → List Function
left entries i = accepted (drop i entries)

left-more : (entries : List Entry) (i : ℕ) (e : Entry) → i < length entries → left entries i ≡ accepted_first (get_or entries i e).function (left entries (i + 1))
left-more entries i e lt = ap accepted (drop_more entries i e lt)

pub any_more : (entries : List Entry) (i : ℕ) (e : Entry) (b c all : Bool) → i < length entries → e ≡ get_or entries i e
    → c ≡ has_any b (accepted_first e.function []) → has_any b (left entries i) ≡ all → has_any c (left entries (i + 1)) ≡ all
any_more entries i e b c all lt is made h =
    ap (λ x. has_any x (left entries (i + 1))) made ∙ sym (any-first b e.function (left entries (i + 1))) ∙ ap (λ (x : Entry). has_any b (accepted_first x.function (left entries (i + 1)))) is
    ∙ ap (has_any b) (sym (left-more entries i e lt)) ∙ h

pub text_more : (entries : List Entry) (i : ℕ) (e : Entry) (b c : Bool) (out new all : List ℕ) → i < length entries → e ≡ get_or entries i e
    → c ≡ has_any b (accepted_first e.function []) → new ≡ out ++ text_of (functions_pieces b (accepted_first e.function []))
    → out ++ text_of (functions_pieces b (left entries i)) ≡ all → new ++ text_of (functions_pieces c (left entries (i + 1))) ≡ all
text_more entries i e b c out new all lt is made wrote h =
    let rest = left entries (i + 1) in
    ap (λ t. t ++ text_of (functions_pieces c rest)) wrote ∙ append_assoc out _ _
    ∙ ap (λ t. out ++ t) (ap (λ x. text_of (functions_pieces b (accepted_first e.function [])) ++ text_of (functions_pieces x rest)) made
    ∙ sym (text_of-append (functions_pieces b (accepted_first e.function [])) (functions_pieces (has_any b (accepted_first e.function [])) rest))
    ∙ ap text_of (sym (pieces-first b e.function rest) ∙ ap (λ (x : Entry). functions_pieces b (accepted_first x.function rest)) is ∙ ap (functions_pieces b) (sym (left-more entries i e lt))))
    ∙ h

pub any_done : (entries : List Entry) (i : ℕ) (b all : Bool) → length entries ≤ i → has_any b (left entries i) ≡ all → b ≡ all
any_done entries i b all past h = sym (at_drop_all (λ es. has_any b (accepted es)) entries i past) ∙ h

pub text_done : (entries : List Entry) (i : ℕ) (b : Bool) (out all : List ℕ) → length entries ≤ i → out ++ text_of (functions_pieces b (left entries i)) ≡ all → out ≡ all
text_done entries i b out all past h =
    sym (append-nil out) ∙ ap (λ t. out ++ t) (sym (at_drop_all (λ es. text_of (functions_pieces b (accepted es))) entries i past)) ∙ h

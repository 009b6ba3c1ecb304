-- Reading the numbers of a chain.
use Rattle.proof_text.proofs.Common.{ℕ, ◌≡◌, ◌<◌, ◌⊎◌, List, [], ◌∷◌, ◌++◌, get_or, codes, Contains, append_assoc, append-nil, subst, sym, ap, ◌∙◌, refl, inl, inr, ⊎_elim, arith, decimal, flat_map, decimal_injective, first_decimal, flat_map-append, All-contains, All-head, All-push, All-tail, Contains-append_right, IsSmall, spaced, IsChain, Parts, chain_text}
use Rattle.proof_text.proofs.Numbers.{free_decimal}
use Rattle.proof_text.proofs.Splits.{contains_it, first_or_later, here, parted, same_parts}

abbrev pub numbers_text : List ℕ → List ℕ
numbers_text ns = flat_map (λ n. spaced (decimal n)) ns

text_cons : (n : ℕ) (ns rest : List ℕ) → chain_text (n ∷ ns) ++ rest ≡ decimal n ++ 32 ∷ (chain_text ns ++ rest)
text_cons n ns rest = simp append_assoc

free_zero : Contains (codes "0") 32 → ⊥
free_zero i = ⊎_elim (λ z. absurd (omega arith)) (λ l. absurd (omega (arith, l.1))) (first_or_later 48 32 [] i)

-- a positive number isn't written 0
not_zero : (n : ℕ) → 0 < n → IsSmall n → codes "0" ≡ decimal n → ⊥
not_zero n h small e = let f = first_decimal n h (omega arith) in let g = ap (λ t. get_or t 0 0) e in omega arith

-- these numbers of the line were read, and each chain that the line begins with goes on from there
pub record ChainRead (line read rest : List ℕ) : Type 0 where
  pub is : line ≡ numbers_text read ++ rest
  pub fit : IsChain read
  pub goes_on : (chain later : List ℕ) → IsChain chain → line ≡ chain_text chain ++ later → (more : List ℕ) × (chain ≡ read ++ more) × (rest ≡ chain_text more ++ later)

at_word : (rest word after : List ℕ) (more later : List ℕ) → ((n : ℕ) → Contains more n → (0 < n) × IsSmall n) → rest ≡ chain_text more ++ later → Parts 32 rest word after
    → (word ≡ codes "0") ⊎ ((n : ℕ) × (ns : List ℕ) × (more ≡ n ∷ ns) × (0 < n) × IsSmall n × (word ≡ decimal n) × (after ≡ chain_text ns ++ later))
at_word rest word after [] later f r p = inl (same_parts 32 rest word after (codes "0") later p r free_zero).0
at_word rest word after (n ∷ ns) later f r p =
    let fit = f n (here n ns) in
    let same = same_parts 32 rest word after (decimal n) (chain_text ns ++ later) p (r ∙ text_cons n ns later) (λ i. free_decimal n 32 (omega arith) (omega arith) i) in
    inr (n, ns, refl, fit.0, fit.1, same.0, same.1)

pub next_number : (line read rest word after chain later : List ℕ) → ChainRead line read rest → Parts 32 rest word after → IsChain chain → line ≡ chain_text chain ++ later
    → (word ≡ codes "0") ⊎ ((n : ℕ) × (ns : List ℕ) × (chain ≡ read ++ n ∷ ns) × (0 < n) × IsSmall n × (word ≡ decimal n) × (after ≡ chain_text ns ++ later))
next_number line read rest word after chain later r p f e =
    let on = r.goes_on chain later f e in
    let fit = λ (n : ℕ) (i : Contains on.0 n). All-contains (λ k. (0 < k) × IsSmall k) chain n f (subst (λ xs. Contains xs n) (sym on.1) (Contains-append_right read on.0 n i)) in
    ⊎_elim inl (λ h. inr (h.0, h.1, on.1 ∙ ap (λ ns. read ++ ns) h.2, h.3, h.4, h.5, h.6)) (at_word rest word after on.0 later fit on.2 p)

reshaped : (read : List ℕ) (n : ℕ) (after : List ℕ) → numbers_text read ++ (decimal n ++ 32 ∷ after) ≡ numbers_text (read ++ n ∷ []) ++ after
reshaped read n after = simp (flat_map-append, append_assoc, append-nil)

pub chain_step : (line read rest word after : List ℕ) (n : ℕ) → ChainRead line read rest → Parts 32 rest word after → 0 < n → IsSmall n → word ≡ decimal n → ChainRead line (read ++ n ∷ []) after
chain_step line read rest word after n r p positive small w = record {
  is = r.is ∙ ap (λ t. numbers_text read ++ t) (p.is ∙ ap (λ t. t ++ 32 ∷ after) w) ∙ reshaped read n after;
  fit = All-push (λ k. (0 < k) × IsSmall k) read n r.fit (positive, small);
  goes_on = λ chain later f e. ⊎_elim
      (λ zero_is. absurd (not_zero n positive small (sym zero_is ∙ w)))
      (λ h.
      let same : h.0 ≡ n = decimal_injective h.0 n (omega arith) (omega arith) (sym h.5 ∙ w) in
      (h.1, h.2 ∙ ap (λ k. read ++ k ∷ h.1) same ∙ sym (append_assoc read (n ∷ []) h.1), h.6))
      (next_number line read rest word after chain later r p f e);
}

-- at the word 0 the chain was read
pub chain_end : (line read rest word after : List ℕ) → ChainRead line read rest → Parts 32 rest word after → word ≡ codes "0" → line ≡ chain_text read ++ after
chain_end line read rest word after r p w = r.is ∙ ap (λ t. numbers_text read ++ t) (p.is ∙ ap (λ t. t ++ 32 ∷ after) w) ∙ sym (append_assoc (numbers_text read) (codes "0 ") after)

has_space : (more later : List ℕ) → Contains (chain_text more ++ later) 32
has_space [] later = contains_it 32 (chain_text [] ++ later) (codes "0") later refl
has_space (n ∷ ns) later = contains_it 32 (chain_text (n ∷ ns) ++ later) (decimal n) (chain_text ns ++ later) (text_cons n ns later)

-- where no further word is, no chain was there
pub chain_missing : (line read rest chain later : List ℕ) → ChainRead line read rest → (Contains rest 32 → ⊥) → IsChain chain → line ≡ chain_text chain ++ later → ⊥
chain_missing line read rest chain later r n f e =
    let on = r.goes_on chain later f e in
    n (subst (λ t. Contains t 32) (sym on.2) (has_space on.0 later))

-- the chain that a line begins with is determined
pub same_chain : (a b x y : List ℕ) → IsChain a → IsChain b → chain_text a ++ x ≡ chain_text b ++ y → (a ≡ b) × (x ≡ y)
same_chain [] [] x y fa fb e = (refl, cc)
same_chain [] (n ∷ b) x y fa fb e =
    let fit = All-head (λ k. (0 < k) × IsSmall k) n b fb in
    absurd (not_zero n fit.0 fit.1 (parted 32 (codes "0") (decimal n) x (chain_text b ++ y) free_zero (λ i. free_decimal n 32 (omega arith) (omega arith) i) (e ∙ text_cons n b y)).0)
same_chain (m ∷ a) [] x y fa fb e =
    let fit = All-head (λ k. (0 < k) × IsSmall k) m a fa in
    absurd (not_zero m fit.0 fit.1 (parted 32 (codes "0") (decimal m) y (chain_text a ++ x) free_zero (λ i. free_decimal m 32 (omega arith) (omega arith) i) (sym e ∙ text_cons m a x)).0)
same_chain (m ∷ a) (n ∷ b) x y fa fb e =
    let fm = All-head (λ k. (0 < k) × IsSmall k) m a fa in
    let fn = All-head (λ k. (0 < k) × IsSmall k) n b fb in
    let apart = parted 32 (decimal m) (decimal n) (chain_text a ++ x) (chain_text b ++ y) (λ i. free_decimal m 32 (omega arith) (omega arith) i) (λ i. free_decimal n 32 (omega arith) (omega arith) i) (sym (text_cons m a x) ∙ e ∙ text_cons n b y) in
    let heads : m ≡ n = decimal_injective m n (omega arith) (omega arith) apart.0 in
    let rest = same_chain a b x y (All-tail (λ k. (0 < k) × IsSmall k) m a fa) (All-tail (λ k. (0 < k) × IsSmall k) n b fb) apart.1 in
    let tails = rest.0 in
    (cc, rest.1)

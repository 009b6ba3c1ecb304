-- Which sites are in which parts of a function.
use Rattle.ir_tree.proofs.Common.{◌≡◌, ◌⊎◌, ℕ, zero, suc, ◌+◌, ◌<◌, List, [], ◌∷◌, ◌++◌, map, length, get_or, slice_get, Option, Some, inl, inr, refl, ap, sym, subst, ◌∙◌, arith, Contains, length-append, get_or-append-add, zero-add, get_or_append_left, length-map, slice_get-get_or, slice_get_within, get_or_from_slice_get, same_Some, none-some, IrType, Inst, Phi, Block, Parameter, Function, Part, Site, Step, sites, sites_in, parts, parts_in, steps, block_steps, blocks_steps, phi_steps, inst_steps, parameter_steps, parameter_sites, label_sites, phi_sites, inst_sites, terminator_sites, header_sites}
use Rattle.std.proofs.lemmas.List.Elements.{Contains-append_right}
use Rattle.ir_tree.specs.declared.sites.Part.TheVariants as part

-- one of the steps is this part, and has the site
abbrev pub AreIn : List Step → Part → Site → Type 0
AreIn [] p s = ⊥
AreIn (step ∷ steps) p s = ((step.0 ≡ p) × Contains step.1 s) ⊎ AreIn steps p s

-- ---- a site by its number

pub behind : {X : Type 0} (x : X) (xs : List X) (y : X) → Contains xs y → Contains (x ∷ xs) y
behind x xs y found = Contains-append_right (x ∷ []) xs y found

in_front : (steps : List Step) (p q : Part) (s : Site) (ss : List Site) (n : ℕ) → ((m : ℕ) → slice_get (sites_in steps) m ≡ Some s → slice_get (parts_in steps) m ≡ Some p → AreIn steps p s)
    → slice_get (ss ++ sites_in steps) n ≡ Some s → slice_get (map (λ (site : Site). q) ss ++ parts_in steps) n ≡ Some p → ((q ≡ p) × Contains ss s) ⊎ AreIn steps p s
in_front steps p q s [] n rest a b = inr (rest n a b)
in_front steps p q s (t ∷ ss) zero rest a b = inl (same_Some q p b, (0, omega arith, same_Some t s a))
in_front steps p q s (t ∷ ss) (suc n) rest a b = wider (in_front steps p q s ss n rest a b)
  where
    wider : ((q ≡ p) × Contains ss s) ⊎ AreIn steps p s → ((q ≡ p) × Contains (t ∷ ss) s) ⊎ AreIn steps p s
    wider (inl here) = inl (here.0, behind t ss s here.1)
    wider (inr there) = inr there

stand_in : (steps : List Step) (n : ℕ) (p : Part) (s : Site) → slice_get (sites_in steps) n ≡ Some s → slice_get (parts_in steps) n ≡ Some p → AreIn steps p s
stand_in [] n p s a b = absurd (none-some s a)
stand_in (step ∷ steps) n p s a b = in_front steps p step.0 s step.1 n (λ m x y. stand_in steps m p s x y) a b

-- the site and its part have the same number
abbrev pub Stands : List Step → Part → Site → Type 0
Stands steps p s = (n : ℕ) × (slice_get (sites_in steps) n ≡ Some s) × (slice_get (parts_in steps) n ≡ Some p)

in_list : {X : Type 0} (xs ys : List X) (k : ℕ) (x : X) → k < length xs → get_or xs k x ≡ x → slice_get (xs ++ ys) k ≡ Some x
in_list xs ys k x below e =
    slice_get-get_or (xs ++ ys) k x (let long = length-append xs ys in omega (arith, below, long)) ∙ ap Some (get_or_append_left xs ys x k below ∙ e)

tagged : (q : Part) (ss : List Site) (rest : List Part) (k : ℕ) → k < length ss → slice_get (map (λ (site : Site). q) ss ++ rest) k ≡ Some q
tagged q [] rest k below = absurd (omega (arith, below))
tagged q (s ∷ ss) rest zero below = refl
tagged q (s ∷ ss) rest (suc k) below = tagged q ss rest k (omega (arith, below))

in_rest : {X : Type 0} (xs ys : List X) (n : ℕ) (x : X) → slice_get ys n ≡ Some x → slice_get (xs ++ ys) (length xs + n) ≡ Some x
in_rest xs ys n x e =
    let below = slice_get_within ys n x e in
    slice_get-get_or (xs ++ ys) (length xs + n) x (let long = length-append xs ys in omega (arith, below, long)) ∙ ap Some (get_or-append-add xs ys n x ∙ get_or_from_slice_get ys n x x e)

in_rest_at : {X : Type 0} (xs ys : List X) (long n : ℕ) (x : X) → length xs ≡ long → slice_get ys n ≡ Some x → slice_get (xs ++ ys) (long + n) ≡ Some x
in_rest_at xs ys long n x e is = subst (λ (k : ℕ). slice_get (xs ++ ys) (k + n) ≡ Some x) e (in_rest xs ys n x is)

somewhere : (steps : List Step) (p : Part) (s : Site) → AreIn steps p s → Stands steps p s
somewhere [] p s found = absurd found
somewhere (step ∷ steps) p s (inl here) = (
  here.1.0,
  in_list step.1 (sites_in steps) here.1.0 s here.1.1 here.1.2,
  tagged step.0 step.1 (parts_in steps) here.1.0 here.1.1 ∙ ap Some here.0,
)
somewhere (step ∷ steps) p s (inr there) = further (somewhere steps p s there)
  where
    further : Stands steps p s → Stands (step ∷ steps) p s
    further w = (
      length step.1 + w.0,
      in_rest step.1 (sites_in steps) w.0 s w.1,
      in_rest_at (map (λ (site : Site). step.0) step.1) (parts_in steps) (length step.1) w.0 p (length-map step.1 (λ (site : Site). step.0)) w.2,
    )

-- ---- the parts of lists of steps

append_cases : (xs ys : List Step) (p : Part) (s : Site) → AreIn (xs ++ ys) p s → AreIn xs p s ⊎ AreIn ys p s
append_cases [] ys p s found = inr found
append_cases (x ∷ xs) ys p s (inl here) = inl (inl here)
append_cases (x ∷ xs) ys p s (inr there) = further (append_cases xs ys p s there)
  where
    further : AreIn xs p s ⊎ AreIn ys p s → AreIn (x ∷ xs) p s ⊎ AreIn ys p s
    further (inl a) = inl (inr a)
    further (inr b) = inr b

append_left : (xs ys : List Step) (p : Part) (s : Site) → AreIn xs p s → AreIn (xs ++ ys) p s
append_left [] ys p s found = absurd found
append_left (x ∷ xs) ys p s (inl here) = inl here
append_left (x ∷ xs) ys p s (inr there) = inr (append_left xs ys p s there)

append_right : (xs ys : List Step) (p : Part) (s : Site) → AreIn ys p s → AreIn (xs ++ ys) p s
append_right [] ys p s found = found
append_right (x ∷ xs) ys p s found = inr (append_right xs ys p s found)

-- the part is one of a block's, and has the site
abbrev pub InBlock : Option IrType → ℕ → Block → Part → Site → Type 0
InBlock header n b part.Header s = ⊥
InBlock header n b part.Parameter s = ⊥
InBlock header n b (part.Label k) s = (k ≡ n) × Contains (label_sites b) s
InBlock header n b (part.Phi k j) s = (k ≡ n) × (phi : Phi) × (slice_get b.phis j ≡ Some phi) × Contains (phi_sites phi) s
InBlock header n b (part.Inst k j) s = (k ≡ n) × (inst : Inst) × (slice_get b.insts j ≡ Some inst) × Contains (inst_sites inst) s
InBlock header n b (part.End k) s = (k ≡ n) × Contains (terminator_sites header b.terminator) s

-- the part is one of the function's, and has the site
abbrev pub InFunction : Function → Part → Site → Type 0
InFunction f part.Header s = Contains header_sites s
InFunction f part.Parameter s = (p : Parameter) × Contains f.parameters p × Contains (parameter_sites p) s
InFunction f (part.Label k) s = (b : Block) × (slice_get f.blocks k ≡ Some b) × InBlock f.returns k b (part.Label k) s
InFunction f (part.Phi k j) s = (b : Block) × (slice_get f.blocks k ≡ Some b) × InBlock f.returns k b (part.Phi k j) s
InFunction f (part.Inst k j) s = (b : Block) × (slice_get f.blocks k ≡ Some b) × InBlock f.returns k b (part.Inst k j) s
InFunction f (part.End k) s = (b : Block) × (slice_get f.blocks k ≡ Some b) × InBlock f.returns k b (part.End k) s

phis_have : (block n : ℕ) (phis : List Phi) (p : Part) (s : Site) → AreIn (phi_steps block n phis) p s → (j : ℕ) × (phi : Phi) × (slice_get phis j ≡ Some phi) × (part.Phi block (n + j) ≡ p) × Contains (phi_sites phi) s
phis_have block n [] p s found = absurd found
phis_have block n (phi ∷ phis) p s (inl here) = (0, phi, refl, ap (λ (k : ℕ). part.Phi block k) (let e : n + 0 ≡ n = omega arith in e) ∙ here.0, here.1)
phis_have block n (phi ∷ phis) p s (inr there) = further (phis_have block (n + 1) phis p s there)
  where
    further : (j : ℕ) × (other : Phi) × (slice_get phis j ≡ Some other) × (part.Phi block ((n + 1) + j) ≡ p) × Contains (phi_sites other) s → (j : ℕ) × (other : Phi) × (slice_get (phi ∷ phis) j ≡ Some other) × (part.Phi block (n + j) ≡ p) × Contains (phi_sites other) s
    further w = (suc w.0, w.1, w.2, ap (λ (k : ℕ). part.Phi block k) (let e : n + suc w.0 ≡ (n + 1) + w.0 = omega arith in e) ∙ w.3, w.4)

insts_have : (block n : ℕ) (insts : List Inst) (p : Part) (s : Site) → AreIn (inst_steps block n insts) p s → (j : ℕ) × (inst : Inst) × (slice_get insts j ≡ Some inst) × (part.Inst block (n + j) ≡ p) × Contains (inst_sites inst) s
insts_have block n [] p s found = absurd found
insts_have block n (inst ∷ insts) p s (inl here) = (0, inst, refl, ap (λ (k : ℕ). part.Inst block k) (let e : n + 0 ≡ n = omega arith in e) ∙ here.0, here.1)
insts_have block n (inst ∷ insts) p s (inr there) = further (insts_have block (n + 1) insts p s there)
  where
    further : (j : ℕ) × (other : Inst) × (slice_get insts j ≡ Some other) × (part.Inst block ((n + 1) + j) ≡ p) × Contains (inst_sites other) s → (j : ℕ) × (other : Inst) × (slice_get (inst ∷ insts) j ≡ Some other) × (part.Inst block (n + j) ≡ p) × Contains (inst_sites other) s
    further w = (suc w.0, w.1, w.2, ap (λ (k : ℕ). part.Inst block k) (let e : n + suc w.0 ≡ (n + 1) + w.0 = omega arith in e) ∙ w.3, w.4)

block_has : (header : Option IrType) (n : ℕ) (b : Block) (p : Part) (s : Site) → AreIn (block_steps header n b) p s → InBlock header n b p s
block_has header n b p s (inl label) = subst (λ (q : Part). InBlock header n b q s) label.0 (refl, label.1)
block_has header n b p s (inr found) = at_phi (append_cases (phi_steps n 0 b.phis) (inst_steps n 0 b.insts ++ last) p s found)
  where
    last : List Step
    last = (part.End n, terminator_sites header b.terminator) ∷ []

    at_end : AreIn last p s → InBlock header n b p s
    at_end (inl end) = subst (λ (q : Part). InBlock header n b q s) end.0 (refl, end.1)
    at_end (inr none) = absurd none

    at_inst : AreIn (inst_steps n 0 b.insts) p s ⊎ AreIn last p s → InBlock header n b p s
    at_inst (inl inside) = (let w = insts_have n 0 b.insts p s inside in subst (λ (q : Part). InBlock header n b q s) w.3 (refl, w.1, ap (λ (m : ℕ). slice_get b.insts m) (zero-add w.0) ∙ w.2, w.4))
    at_inst (inr end) = at_end end

    at_phi : AreIn (phi_steps n 0 b.phis) p s ⊎ AreIn (inst_steps n 0 b.insts ++ last) p s → InBlock header n b p s
    at_phi (inl inside) = (let w = phis_have n 0 b.phis p s inside in subst (λ (q : Part). InBlock header n b q s) w.3 (refl, w.1, ap (λ (m : ℕ). slice_get b.phis m) (zero-add w.0) ∙ w.2, w.4))
    at_phi (inr others) = at_inst (append_cases (inst_steps n 0 b.insts) last p s others)

blocks_have : (header : Option IrType) (n : ℕ) (bs : List Block) (p : Part) (s : Site) → AreIn (blocks_steps header n bs) p s → (k : ℕ) × (b : Block) × (slice_get bs k ≡ Some b) × InBlock header (n + k) b p s
blocks_have header n [] p s found = absurd found
blocks_have header n (b ∷ bs) p s found = choose (append_cases (block_steps header n b) (blocks_steps header (n + 1) bs) p s found) (λ there. blocks_have header (n + 1) bs p s there)
  where
    choose : AreIn (block_steps header n b) p s ⊎ AreIn (blocks_steps header (n + 1) bs) p s
        → (AreIn (blocks_steps header (n + 1) bs) p s → (k : ℕ) × (c : Block) × (slice_get bs k ≡ Some c) × InBlock header ((n + 1) + k) c p s)
        → (k : ℕ) × (c : Block) × (slice_get (b ∷ bs) k ≡ Some c) × InBlock header (n + k) c p s
    choose (inl here) more = (0, b, refl, subst (λ (m : ℕ). InBlock header m b p s) (let e : n ≡ n + 0 = omega arith in e) (block_has header n b p s here))
    choose (inr there) more = let w = more there in (suc w.0, w.1, w.2, subst (λ (m : ℕ). InBlock header m w.1 p s) (let e : (n + 1) + w.0 ≡ n + suc w.0 = omega arith in e) w.3)

parameters_have : (ps : List Parameter) (p : Part) (s : Site) → AreIn (parameter_steps ps) p s → (part.Parameter ≡ p) × (q : Parameter) × Contains ps q × Contains (parameter_sites q) s
parameters_have [] p s found = absurd found
parameters_have (q ∷ ps) p s (inl here) = (here.0, q, (0, omega arith, refl), here.1)
parameters_have (q ∷ ps) p s (inr there) = (let w = parameters_have ps p s there in (w.0, w.1, behind q ps w.1 w.2, w.3))

in_function : (f : Function) (k : ℕ) (b : Block) (p : Part) (s : Site) → slice_get f.blocks k ≡ Some b → InBlock f.returns k b p s → InFunction f p s
in_function f k b part.Header s stands found = absurd found
in_function f k b part.Parameter s stands found = absurd found
in_function f k b (part.Label n) s stands found = (b, ap (λ (m : ℕ). slice_get f.blocks m) found.0 ∙ stands, (refl, found.1))
in_function f k b (part.Phi n j) s stands found = (b, ap (λ (m : ℕ). slice_get f.blocks m) found.0 ∙ stands, (refl, found.1, found.2, found.3))
in_function f k b (part.Inst n j) s stands found = (b, ap (λ (m : ℕ). slice_get f.blocks m) found.0 ∙ stands, (refl, found.1, found.2, found.3))
in_function f k b (part.End n) s stands found = (b, ap (λ (m : ℕ). slice_get f.blocks m) found.0 ∙ stands, (refl, found.1))

function_has : (f : Function) (p : Part) (s : Site) → AreIn (steps f) p s → InFunction f p s
unfolding steps
function_has f p s (inl header) = subst (λ (q : Part). InFunction f q s) header.0 header.1
function_has f p s (inr found) = choose (append_cases (parameter_steps f.parameters) (blocks_steps f.returns 0 f.blocks) p s found)
  where
    choose : AreIn (parameter_steps f.parameters) p s ⊎ AreIn (blocks_steps f.returns 0 f.blocks) p s → InFunction f p s
    choose (inl there) = (let w = parameters_have f.parameters p s there in subst (λ (q : Part). InFunction f q s) w.0 (w.1, w.2, w.3))
    choose (inr there) = (let w = blocks_have f.returns 0 f.blocks p s there in in_function f w.0 w.1 p s w.2 (subst (λ (m : ℕ). InBlock f.returns m w.1 p s) (zero-add w.0) w.3))

-- what is at a site
pub at_site : (f : Function) (n : ℕ) (p : Part) (s : Site) → slice_get (sites f) n ≡ Some s → slice_get (parts f) n ≡ Some p → InFunction f p s
at_site f n p s site its = function_has f p s (stand_in (steps f) n p s site its)

-- ---- and back

phi_in : (block n : ℕ) (phis : List Phi) (j : ℕ) (phi : Phi) (s : Site) → slice_get phis j ≡ Some phi → Contains (phi_sites phi) s → AreIn (phi_steps block n phis) (part.Phi block (n + j)) s
phi_in block n [] j phi s stands found = absurd (none-some phi stands)
phi_in block n (first ∷ phis) zero phi s stands found =
    inl (ap (λ (k : ℕ). part.Phi block k) (let e : n ≡ n + 0 = omega arith in e), subst (λ (x : Phi). Contains (phi_sites x) s) (sym (same_Some first phi stands)) found)
phi_in block n (first ∷ phis) (suc j) phi s stands found =
    inr (subst (λ (k : ℕ). AreIn (phi_steps block (n + 1) phis) (part.Phi block k) s) (let e : (n + 1) + j ≡ n + suc j = omega arith in e) (phi_in block (n + 1) phis j phi s stands found))

inst_in : (block n : ℕ) (insts : List Inst) (j : ℕ) (inst : Inst) (s : Site) → slice_get insts j ≡ Some inst → Contains (inst_sites inst) s → AreIn (inst_steps block n insts) (part.Inst block (n + j)) s
inst_in block n [] j inst s stands found = absurd (none-some inst stands)
inst_in block n (first ∷ insts) zero inst s stands found =
    inl (ap (λ (k : ℕ). part.Inst block k) (let e : n ≡ n + 0 = omega arith in e), subst (λ (x : Inst). Contains (inst_sites x) s) (sym (same_Some first inst stands)) found)
inst_in block n (first ∷ insts) (suc j) inst s stands found =
    inr (subst (λ (k : ℕ). AreIn (inst_steps block (n + 1) insts) (part.Inst block k) s) (let e : (n + 1) + j ≡ n + suc j = omega arith in e) (inst_in block (n + 1) insts j inst s stands found))

label_in : (header : Option IrType) (n : ℕ) (b : Block) (s : Site) → Contains (label_sites b) s → AreIn (block_steps header n b) (part.Label n) s
label_in header n b s found = inl (refl, found)

block_phi_in : (header : Option IrType) (n : ℕ) (b : Block) (j : ℕ) (phi : Phi) (s : Site) → slice_get b.phis j ≡ Some phi → Contains (phi_sites phi) s → AreIn (block_steps header n b) (part.Phi n j) s
block_phi_in header n b j phi s stands found = inr (append_left (phi_steps n 0 b.phis) _ (part.Phi n j) s (subst (λ (m : ℕ). AreIn (phi_steps n 0 b.phis) (part.Phi n m) s) (zero-add j) (phi_in n 0 b.phis j phi s stands found)))

block_inst_in : (header : Option IrType) (n : ℕ) (b : Block) (j : ℕ) (inst : Inst) (s : Site) → slice_get b.insts j ≡ Some inst → Contains (inst_sites inst) s → AreIn (block_steps header n b) (part.Inst n j) s
block_inst_in header n b j inst s stands found =
    inr (append_right (phi_steps n 0 b.phis) _ (part.Inst n j) s (append_left (inst_steps n 0 b.insts) _ (part.Inst n j) s (subst (λ (m : ℕ). AreIn (inst_steps n 0 b.insts) (part.Inst n m) s) (zero-add j) (inst_in n 0 b.insts j inst s stands found))))

end_in : (header : Option IrType) (n : ℕ) (b : Block) (s : Site) → Contains (terminator_sites header b.terminator) s → AreIn (block_steps header n b) (part.End n) s
end_in header n b s found = inr (append_right (phi_steps n 0 b.phis) _ (part.End n) s (append_right (inst_steps n 0 b.insts) _ (part.End n) s (inl (refl, found))))

block_in : (header : Option IrType) (n : ℕ) (bs : List Block) (k : ℕ) (b : Block) (p : Part) (s : Site) → slice_get bs k ≡ Some b → AreIn (block_steps header (n + k) b) p s → AreIn (blocks_steps header n bs) p s
block_in header n [] k b p s stands found = absurd (none-some b stands)
block_in header n (first ∷ bs) zero b p s stands found =
    append_left (block_steps header n first) (blocks_steps header (n + 1) bs) p s
    (subst (λ (c : Block). AreIn (block_steps header n c) p s) (sym (same_Some first b stands)) (subst (λ (m : ℕ). AreIn (block_steps header m b) p s) (let e : n + 0 ≡ n = omega arith in e) found))
block_in header n (first ∷ bs) (suc k) b p s stands found =
    append_right (block_steps header n first) (blocks_steps header (n + 1) bs) p s
    (block_in header (n + 1) bs k b p s stands (subst (λ (m : ℕ). AreIn (block_steps header m b) p s) (let e : n + suc k ≡ (n + 1) + k = omega arith in e) found))

parameter_in : (ps : List Parameter) (k : ℕ) (q : Parameter) (s : Site) → slice_get ps k ≡ Some q → Contains (parameter_sites q) s → AreIn (parameter_steps ps) part.Parameter s
parameter_in [] k q s stands found = absurd (none-some q stands)
parameter_in (first ∷ ps) zero q s stands found = inl (refl, subst (λ (x : Parameter). Contains (parameter_sites x) s) (sym (same_Some first q stands)) found)
parameter_in (first ∷ ps) (suc k) q s stands found = inr (parameter_in ps k q s stands found)

block_stands : (f : Function) (k : ℕ) (b : Block) (p : Part) (s : Site) → slice_get f.blocks k ≡ Some b → AreIn (block_steps f.returns k b) p s → AreIn (steps f) p s
unfolding steps
block_stands f k b p s stands found = inr (append_right (parameter_steps f.parameters) (blocks_steps f.returns 0 f.blocks) p s (block_in f.returns 0 f.blocks k b p s stands (subst (λ (m : ℕ). AreIn (block_steps f.returns m b) p s) (sym (zero-add k)) found)))

parameter_stands : (f : Function) (k : ℕ) (q : Parameter) (s : Site) → slice_get f.parameters k ≡ Some q → Contains (parameter_sites q) s → AreIn (steps f) part.Parameter s
unfolding steps
parameter_stands f k q s stands found = inr (append_left (parameter_steps f.parameters) (blocks_steps f.returns 0 f.blocks) part.Parameter s (parameter_in f.parameters k q s stands found))

-- where the sites of each kind of part are
pub parameter_site : (f : Function) (k : ℕ) (q : Parameter) (s : Site) → slice_get f.parameters k ≡ Some q → Contains (parameter_sites q) s → Stands (steps f) part.Parameter s
parameter_site f k q s stands found = somewhere (steps f) part.Parameter s (parameter_stands f k q s stands found)

pub label_site : (f : Function) (k : ℕ) (b : Block) (s : Site) → slice_get f.blocks k ≡ Some b → Contains (label_sites b) s → Stands (steps f) (part.Label k) s
label_site f k b s stands found = somewhere (steps f) (part.Label k) s (block_stands f k b (part.Label k) s stands (label_in f.returns k b s found))

pub phi_site : (f : Function) (k : ℕ) (b : Block) (j : ℕ) (phi : Phi) (s : Site) → slice_get f.blocks k ≡ Some b → slice_get b.phis j ≡ Some phi → Contains (phi_sites phi) s → Stands (steps f) (part.Phi k j) s
phi_site f k b j phi s stands its found = somewhere (steps f) (part.Phi k j) s (block_stands f k b (part.Phi k j) s stands (block_phi_in f.returns k b j phi s its found))

pub inst_site : (f : Function) (k : ℕ) (b : Block) (j : ℕ) (inst : Inst) (s : Site) → slice_get f.blocks k ≡ Some b → slice_get b.insts j ≡ Some inst → Contains (inst_sites inst) s → Stands (steps f) (part.Inst k j) s
inst_site f k b j inst s stands its found = somewhere (steps f) (part.Inst k j) s (block_stands f k b (part.Inst k j) s stands (block_inst_in f.returns k b j inst s its found))

pub end_site : (f : Function) (k : ℕ) (b : Block) (s : Site) → slice_get f.blocks k ≡ Some b → Contains (terminator_sites f.returns b.terminator) s → Stands (steps f) (part.End k) s
end_site f k b s stands found = somewhere (steps f) (part.End k) s (block_stands f k b (part.End k) s stands (end_in f.returns k b s found))

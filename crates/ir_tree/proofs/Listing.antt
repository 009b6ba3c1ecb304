-- What a list of sites has when its parts went in.
use Rattle.ir_tree.proofs.Common.{◌≡◌, ℕ, ◌+◌, ◌<◌, List, [], ◌∷◌, ◌++◌, Option, length, map, drop, get_or, refl, ap, sym, ◌∙◌, length-append, append-nil, arith, drop_more, length-map, IrType, Block, Function, Part, Site, Step, sites, sites_in, parts, parts_in, steps, block_steps, blocks_steps, phi_steps, inst_steps, parameter_steps, label_sites, terminator_sites, header_sites, with_part, with_parts}
use Rattle.std.proofs.Common.{append_assoc}
use Rattle.ir_tree.specs.declared.sites.Part.TheVariants as part
use Rattle.ir_tree.specs.declared.sites.SiteList.{SiteList}

-- ---- parts

pub with_parts-append : (list : SiteList) (steps more : List Step) → with_parts list (steps ++ more) ≡ with_parts (with_parts list steps) more
with_parts-append list [] more = refl
with_parts-append list (step ∷ steps) more = with_parts-append (with_part list step.0 step.1) steps more

pub with_parts-all : (list : SiteList) (steps : List Step) → (with_parts list steps).all ≡ list.all ++ sites_in steps
with_parts-all list [] = sym (append-nil list.all)
with_parts-all list (step ∷ steps) = with_parts-all (with_part list step.0 step.1) steps ∙ append_assoc list.all step.1 (sites_in steps)

pub with_parts-parts : (list : SiteList) (steps : List Step) → (with_parts list steps).parts ≡ list.parts ++ parts_in steps
with_parts-parts list [] = sym (append-nil list.parts)
with_parts-parts list (step ∷ steps) = with_parts-parts (with_part list step.0 step.1) steps ∙ append_assoc list.parts (map (λ (site : Site). step.0) step.1) (parts_in steps)

pub block-made : (header : Option IrType) (n : ℕ) (b : Block) (list labelled chosen listed ended : SiteList) → labelled ≡ with_part list (part.Label n) (label_sites b) → chosen ≡ with_parts labelled (phi_steps n 0 b.phis) → listed ≡ with_parts chosen (inst_steps n 0 b.insts)
    → ended ≡ with_part listed (part.End n) (terminator_sites header b.terminator) → ended ≡ with_parts list (block_steps header n b)
block-made header n b list labelled chosen listed ended p q r s =
    let last : List Step = (part.End n, terminator_sites header b.terminator) ∷ [] in
    let first = with_part list (part.Label n) (label_sites b) in
    let e = with_parts-append first (phi_steps n 0 b.phis) (inst_steps n 0 b.insts ++ last) in
    let f = with_parts-append (with_parts first (phi_steps n 0 b.phis)) (inst_steps n 0 b.insts) last in cc

pub blocks-next : (header : Option IrType) (blocks : List Block) (i : ℕ) (b : Block) (list next : SiteList) (whole : SiteList) → i < length blocks → b ≡ get_or blocks i b → next ≡ with_parts list (block_steps header i b)
    → with_parts list (blocks_steps header i (drop i blocks)) ≡ whole → with_parts next (blocks_steps header (i + 1) (drop (i + 1) blocks)) ≡ whole
blocks-next header blocks i b list next whole within is made so_far =
    let e = with_parts-append list (block_steps header i b) (blocks_steps header (i + 1) (drop (i + 1) blocks)) in
    let s = rw (drop_more blocks i b within, ← is) at so_far in cc

pub function-made : (f : Function) (list headed taken ended : SiteList) → list.all ≡ [] → list.parts ≡ [] → headed ≡ with_part list part.Header header_sites → taken ≡ with_parts headed (parameter_steps f.parameters)
    → ended ≡ with_parts taken (blocks_steps f.returns 0 f.blocks) → (ended.all ≡ sites f) × (ended.parts ≡ parts f)
unfolding steps
function-made f list headed taken ended none none' p q r =
    let e : ended ≡ with_parts list (steps f) = (let a = with_parts-append headed (parameter_steps f.parameters) (blocks_steps f.returns 0 f.blocks) in cc) in (
      ap (λ (made : SiteList). made.all) e ∙ with_parts-all list (steps f) ∙ ap (λ (xs : List Site). xs ++ sites f) none,
      ap (λ (made : SiteList). made.parts) e ∙ with_parts-parts list (steps f) ∙ ap (λ (xs : List Part). xs ++ parts f) none',
    )

-- a part for each site
parts-length : (steps : List Step) → length (parts_in steps) ≡ length (sites_in steps)
parts-length [] = refl
parts-length (step ∷ steps) =
    let tag : Site → Part = λ (site : Site). step.0 in
    let each = length-map step.1 tag in
    let others = parts-length steps in
    length-append (map tag step.1) (parts_in steps) ∙ omega (arith, each, others) ∙ sym (length-append step.1 (sites_in steps))

pub list-length : (f : Function) (list : SiteList) → list.all ≡ sites f → list.parts ≡ parts f → length list.parts ≡ length list.all
list-length f list all tags = rw (all, tags) (parts-length (steps f))

-- The positions of what is written.
use Rattle.ir_numbering.proofs.Common.{◌≡◌, ℕ, ◌+◌, List, [], ◌∷◌, ◌++◌, length, map, refl, ap, ◌∙◌, arith, flat_map, map-append, Place, WrittenParameter, WrittenInst, WrittenReturn, Void, Value, WrittenPhi, WrittenTerminator, WrittenBody, WrittenBlock, WrittenFunction, NamedParameter, place_or, places_of, index_places, inst_places, parameter_places, returned_places, entry_places, phi_places, case_places, terminator_places, body_places, block_places, named_behind, Mention, mention_at, index_mentions, inst_mentions, returned_mentions, entry_mentions, phi_mentions, case_mentions, terminator_mentions, body_mentions, block_mentions, parameter_mentions, names_written, entry_name}
use Rattle.ir_words.specs.declared.written.WrittenInst.TheVariants as line
use Rattle.ir_words.specs.declared.written.WrittenAccess.TheVariants as access
use Rattle.ir_words.specs.declared.written.WrittenTerminator.TheVariants as last

abbrev at_in : Mention → Place
at_in m = m.at

each-places : {A : Type 0} (mentions : A → List Mention) (places : A → List Place) → ((a : A) → map at_in (mentions a) ≡ places a) → (items : List A) → map at_in (flat_map mentions items) ≡ flat_map places items
each-places mentions places same [] = refl
each-places mentions places same (a ∷ more_items) =
    map-append at_in (mentions a) (flat_map mentions more_items)
    ∙ ap (λ (ps : List Place). ps ++ map at_in (flat_map mentions more_items)) (same a)
    ∙ ap (λ (ps : List Place). places a ++ ps) (each-places mentions places same more_items)

inst-places : (i : WrittenInst) → map at_in (inst_mentions i) ≡ inst_places i
inst-places (line.Binary into op type left right) = refl
inst-places (line.Icmp into predicate same_sign type left right) = refl
inst-places (line.Cast into cast from value to) = refl
inst-places (line.Select into bit condition if_true if_false) = refl
inst-places (line.Freeze into value) = refl
inst-places (line.Access (access.Alloca into number type) align) = refl
inst-places (line.Access (access.Load into type from) align) = refl
inst-places (line.Access (access.Store value to) align) = refl
inst-places (line.GetElementPtr g) = ap (λ (ps : List Place). g.into.at ∷ g.of_type.at ∷ g.base.of_type.at ∷ g.base.operand.at ∷ ps) (each-places index_mentions index_places (λ i. refl) g.indices)

phi-places : (phi : WrittenPhi) → map at_in (phi_mentions phi) ≡ phi_places phi
phi-places phi = ap (λ (ps : List Place). phi.into.at ∷ phi.of_type.at ∷ ps) (each-places entry_mentions entry_places (λ e. refl) phi.entries)

returned-places : (r : WrittenReturn) → map at_in (returned_mentions r) ≡ returned_places r
returned-places (Void at) = refl
returned-places (Value typed) = refl

terminator-places : (t : WrittenTerminator) → map at_in (terminator_mentions t) ≡ terminator_places t
terminator-places (last.Return returned) = returned-places returned
terminator-places (last.Branch to) = refl
terminator-places (last.CondBranch bit condition if_true if_false) = refl
terminator-places (last.Switch type value default cases) = ap (λ (ps : List Place). type.at ∷ value.at ∷ default.at ∷ ps) (each-places case_mentions case_places (λ c. refl) cases)
terminator-places last.Unreachable = refl

body-places : (b : WrittenBody) → map at_in (body_mentions b) ≡ body_places b
unfolding body_mentions body_places
body-places b =
    let insts = flat_map inst_mentions b.insts in
    let ends = terminator_mentions b.terminator in
    map-append at_in (flat_map phi_mentions b.phis) (insts ++ ends)
    ∙ ap (λ (ps : List Place). ps ++ map at_in (insts ++ ends)) (each-places phi_mentions phi_places phi-places b.phis)
    ∙ ap (λ (ps : List Place). flat_map phi_places b.phis ++ ps)
    (map-append at_in insts ends ∙ ap (λ (ps : List Place). ps ++ map at_in ends) (each-places inst_mentions inst_places inst-places b.insts) ∙ ap (λ (ps : List Place). flat_map inst_places b.insts ++ ps) (terminator-places b.terminator))

block-places : (b : WrittenBlock) → map at_in (block_mentions b) ≡ block_places b
block-places b = ap (λ (ps : List Place). b.label.at ∷ ps) (body-places b.body)

parameter-places : (ps : List WrittenParameter) (named_ones : List NamedParameter) → length named_ones ≡ length ps → map at_in (parameter_mentions ps named_ones) ≡ flat_map parameter_places ps
parameter-places [] [] h = refl
parameter-places [] (n ∷ ns) h = absurd (omega (arith, h))
parameter-places (p ∷ ps) [] h = absurd (omega (arith, h))
parameter-places (p ∷ ps) (n ∷ ns) h = ap (λ (qs : List Place). p.of_type.at ∷ place_or p.name p.of_type.at ∷ qs) (parameter-places ps ns (omega (arith, h)))

-- each parameter has a name, written or not
pub places-written : (w : WrittenFunction) → length (named_behind [] w.parameters) ≡ 0 + length w.parameters → map (λ (m : Mention). m.at) (names_written w) ≡ places_of w
unfolding names_written places_of
places-written w h =
    let parameters = parameter_mentions w.parameters (named_behind [] w.parameters) in
    let blocks = mention_at (place_or w.label w.brace) (entry_name w) ∷ (body_mentions w.entry ++ flat_map block_mentions w.others) in
    ap (λ (ps : List Place). w.returns.at ∷ w.name.at ∷ ps)
    (map-append at_in parameters blocks
    ∙ ap (λ (ps : List Place). ps ++ map at_in blocks) (parameter-places w.parameters (named_behind [] w.parameters) (omega (arith, h)))
    ∙ ap (λ (ps : List Place). flat_map parameter_places w.parameters ++ (place_or w.label w.brace ∷ ps))
    (map-append at_in (body_mentions w.entry) (flat_map block_mentions w.others)
    ∙ ap (λ (ps : List Place). ps ++ map at_in (flat_map block_mentions w.others)) (body-places w.entry)
    ∙ ap (λ (ps : List Place). body_places w.entry ++ ps) (each-places block_mentions block_places block-places w.others)))

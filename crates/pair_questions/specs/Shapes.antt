-- What the points of a pair look like, and the terms of their numbers in order.
use Rattle.std.specs.Prelude.{◌≡◌, List, [], ◌∷◌, ◌++◌}
use Rattle.std.specs.List.{flat_map}
use Rattle.points.specs.declared.point.Layout.{Layout}
use Rattle.points.specs.declared.point.Bounds.{Bounds}
use Rattle.points.specs.declared.point.Shape.{Shape}
use Rattle.verdicts.specs.Pair.{RunPair, layout_of}
use Rattle.points.specs.Tapes.{need_of, widest_choice}
use Rattle.bv_terms.specs.declared.term.TermId.{TermId}
use Rattle.mem_terms.specs.declared.inputs.ArgTerms.{ArgTerms}
use Rattle.mem_terms.specs.declared.inputs.ArgTerms.TheVariants as arg
use Rattle.mem_terms.specs.declared.inputs.ByteTerms.{ByteTerms}
use Rattle.mem_terms.specs.declared.inputs.InputTerms.{InputTerms}

-- as many given blocks as a number of 3 bits names
abbrev pub nameable : Layout
nameable = record { blocks = 7; bytes = 0 }

-- the shape of a pair's points
pub record IsShapeOf (pair : RunPair) (bounds : Bounds) (s : Shape) : Type 0 where
  pub parameters : s.parameters ≡ pair.target.parameters
  pub layout : s.layout ≡ layout_of pair bounds
  pub words : s.words ≡ need_of bounds.turns pair.target
  pub word_width : s.word_width.bits ≡ widest_choice pair.target

abbrev pub arg_ids : ArgTerms → List TermId
arg_ids (arg.Int flag number) = flag ∷ number ∷ []
arg_ids (arg.Ptr flag block offset) = flag ∷ block ∷ offset ∷ []

abbrev pub byte_ids : ByteTerms → List TermId
byte_ids b = b.kind ∷ b.mask ∷ b.number ∷ b.block ∷ b.offset ∷ b.part ∷ []

-- the terms of the numbers before the tape, in the order of the code
abbrev pub input_ids : InputTerms → List TermId
input_ids input = flat_map arg_ids input.args ++ (input.sizes ++ flat_map (flat_map byte_ids) input.places)

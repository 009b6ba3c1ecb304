-- RunPair as they are encoded.
use Rattle.std.specs.Prelude.{◌≡◌, ℕ, Option, Some, None}
use Rattle.ir_tree.specs.declared.tree.Function.{Function}
use Rattle.unroll.specs.Layers.{copies_of}
use Rattle.register_slots.specs.StandIn.{IsStandIn}
use Rattle.pair_questions.specs.declared.encodable.Encodable.{Encodable}

-- the function with slots, or the function itself
abbrev pub encoded_of : Function → Option Function → Function
encoded_of f (Some slotted) = slotted
encoded_of f None = f

-- what is encoded may be run instead of the function, and the copies are those of its blocks
pub record IsEncodable (turns : ℕ) (e : Encodable) : Type 0 where
  pub within : e.layered.turns ≡ turns
  pub stands_in : IsStandIn e.of.now (encoded_of e.of.now e.slotted)
  pub copies : e.layered.copies ≡ copies_of turns (encoded_of e.of.now e.slotted)

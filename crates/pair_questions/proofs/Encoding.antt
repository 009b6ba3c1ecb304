-- What is encoded in place of a function.
use Rattle.pair_questions.proofs.Common.{refl, None, IfSome, Function, encoded_of}
use Rattle.std.specs.Prelude.{Option, Some}
use Rattle.register_slots.specs.StandIn.{IsStandIn}

pub encoded_stands_in : (f : Function) (slotted : Option Function) → IfSome slotted (IsStandIn f) → IsStandIn f (encoded_of f slotted)
encoded_stands_in f (Some g) h = h
encoded_stands_in f None h = record {
  runs = λ bounds input tape. refl;
  can_run = λ run. run;
  inputs = λ layout terms input is. is;
  returns = refl;
}

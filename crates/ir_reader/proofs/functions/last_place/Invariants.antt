use Rattle.ir_reader.proofs.Common.{◌≡◌, drop, no_place, last_place}
use Rattle.ir_reader.proofs.functions.last_place.Given as goal

abbrev pub invariant-loop-token : goal.invariant-loop-token
invariant-loop-token l = last_place l.place (drop l.token-index l.tokens) ≡ last_place no_place l.tokens

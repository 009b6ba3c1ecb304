use Rattle.ir_numbering.proofs.NumberedSites.{whole}
use Rattle.ir_numbering.proofs.laws.has_all_places.Goals as goal

pub returns : goal.returns
returns c = record { places = λ w. (whole w).places; names = λ w. (whole w).numbered }

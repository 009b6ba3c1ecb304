use Rattle.ir_numbering.proofs.NumberedSites.{whole, numbered-places}
use Rattle.ir_numbering.proofs.laws.has_names_as_written.Goals as goal

pub returns : goal.returns
returns c = record { places = λ w. numbered-places w; names = λ w. (whole w).named }

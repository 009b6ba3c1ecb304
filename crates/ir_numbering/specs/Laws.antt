-- What holds of each function whose names are numbered.
use Rattle.std.specs.Prelude.{◌≡◌, List, map, length, slice_get, Option, None}
use Rattle.ir_tree.specs.declared.name.Name.{Name}
use Rattle.ir_tree.specs.declared.sites.Site.{Site}
use Rattle.ir_tree.specs.declared.sites.Site.TheVariants.{Defines, Uses, Enters, Written}
use Rattle.ir_tree.specs.Sites.{sites, AreNumbered}
use Rattle.ir_grammar.specs.declared.written.WrittenFunction.{WrittenFunction}
use Rattle.ir_numbering.specs.EntryName.{next_name}
use Rattle.ir_numbering.specs.NextNumber.{AreDecimal, IsNextName}
use Rattle.ir_numbering.specs.Numbering.{numbered}
use Rattle.ir_numbering.specs.Mentions.{Mention, names_written}

-- a function that was read has a position for each site
abbrev pub APlaceForEachSite : Type 0
APlaceForEachSite = (w : WrittenFunction) → length (numbered w).places ≡ length (sites (numbered w))

-- and each of its names is in its table
abbrev pub EachNameIsNumbered : Type 0
EachNameIsNumbered = (w : WrittenFunction) → AreNumbered (numbered w)

-- ---- each name is the one that is written there

-- the name in the table that a site has by number; None where it has none
abbrev pub name_at : List Name → Site → Option Name
name_at names (Defines type name) = slice_get names name
name_at names (Uses type name) = slice_get names name
name_at names (Enters name) = slice_get names name
name_at names (Written fits) = None

-- the positions of the sites are those of what is written
abbrev pub PlacesAreWritten : Type 0
PlacesAreWritten = (w : WrittenFunction) → map (λ (m : Mention). m.at) (names_written w) ≡ (numbered w).places

-- and each site has the name that is written there, or none where none is
abbrev pub NamesAreWritten : Type 0
NamesAreWritten = (w : WrittenFunction) → map (name_at (numbered w).names) (sites (numbered w)) ≡ map (λ (m : Mention). m.name) (names_written w)

-- ---- the name of what is written without one

-- it is a decimal number, the next one after those before it, where these are decimal
abbrev pub NextNameIsNext : Type 0
NextNameIsNext = (names : List Name) → AreDecimal names → IsNextName names (next_name names)

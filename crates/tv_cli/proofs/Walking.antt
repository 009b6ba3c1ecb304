-- What the matches of the command line say of the job.
use Rattle.tv_cli.proofs.Common.{◌≡◌, ◌≢◌, true, List, [], ◌∷◌, Option, None, Some, option_map, refl, sym, ap, ap₂, ◌∙◌, subst, inl, inr, Row, HasKind, Kinds, fault_of, is_simple, is_simple_and_free, subcommand_of, clap_on_literals, subcommand_rows, Box, option_and_then, Text, job_in_rows, job_walked, tv_app, unless_fault, same_Some}
use Rattle.clap.specs.Words.{kind_of}
use Rattle.clap.specs.declared.Error.{Error}
use Rattle.clap.specs.declared.error.ErrorKind.TheVariants as kind
use Rattle.clap.specs.declared.parser.matches.ArgMatches.TheViews.{out-SubCommand}
use Rattle.clap.specs.declared.parser.matches.SubCommand.{SubCommand}
use Rattle.std.specs.Box.{box_value}
use Rattle.tv_cli.proofs.Ranges.{none≢some}

pub tv_is_simple : is_simple_and_free tv_app ≡ true
unfolding clap_on_literals
tv_is_simple = refl

pub tv_is_read : is_simple tv_app ≡ true
unfolding clap_on_literals
tv_is_read = refl

pub walked-found : (words : List Text) (command : Text × List Row) → fault_of tv_app words ≡ [] → subcommand_of tv_app words ≡ Some command → job_walked words ≡ job_in_rows command
walked-found words command none found = ap (λ kinds. unless_fault kinds (option_and_then job_in_rows (subcommand_of tv_app words))) none ∙ ap (option_and_then job_in_rows) found

walked-fault : (words : List Text) → fault_of tv_app words ≢ [] → job_walked words ≡ None
walked-fault words some = nothing (fault_of tv_app words) some where
  nothing : (kinds : Kinds) → kinds ≢ [] → unless_fault kinds (option_and_then job_in_rows (subcommand_of tv_app words)) ≡ None
  nothing [] ne = absurd (ne refl)
  nothing (kind ∷ kinds) ne = refl

pub walked-refused : (words : List Text) (e : Error) → HasKind (fault_of tv_app words) e → ¬ (kind_of e ≡ kind.OutOfMemory) → None ≡ job_walked words
walked-refused words e has other = sym (walked-fault words (λ none. none_has (subst (λ kinds. HasKind kinds e) none has))) where
  none_has : HasKind [] e → ⊥
  none_has (inl memory) = other memory
  none_has (inr among) = among

module _ {Z : Type 0} where
  -- a subcommand's name and its rows
  pub subcommand_pair : (sub : Option (Box SubCommand Z)) (name : Text) (rows : List Row) → Some name ≡ option_map (λ b. (out-SubCommand (box_value b)).name.now) sub
      → Some rows ≡ option_map (λ p. p.1) (subcommand_rows sub) → subcommand_rows sub ≡ Some (name, rows)
  subcommand_pair None name rows e f = absurd (none≢some name (sym e))
  subcommand_pair (Some b) name rows e f = ap₂ (λ (n : Text) (r : List Row). Some (n, r)) (sym (same_Some name _ e)) (sym (same_Some rows _ f))

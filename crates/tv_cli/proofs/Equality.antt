-- What a walk of `clap` comes to is the job that the words are.
use Rattle.tv_cli.proofs.Common.{◌≡◌, Bool, true, false, cond, refl, sym, ap, ap₂, subst, ◌∙◌, List, [], ◌∷◌, ◌++◌, map, Option, Some, None, option_map, codes, fold, inl, inr, ◌⊎◌, is_some, String, string_bytes, IsUtf8, option_and_then, bytes_eq, IsUtf8-string_bytes, Row, Rule, Kinds, fault_of, first_of, subcommand_of, Held, Names, Walk, finished, nothing_held, rows_after, settled, walk, walk_from, walked, with_default, or_else, check_fault, defaults_fault, default_fault, entered_fault, flags_fault, level_fault, settle_fault, turn_fault, walk_fault, App, Shape, built, entered, walk_stopped, clap_on_literals, Text, Kind, Part, Job, check_in_parts, file_in_parts, filled, flag_rule, job_of, kind_of, make_in_parts, parts_of, take, check, log, make, end, attached, separate, dashed, plain, option, flag, name, check_in_rows, job_in_rows, job_walked, make_in_rows, tv_app, unless_fault}
use Rattle.tv_cli.proofs.Uses.{Knows, Use, after}
use Rattle.tv_cli.proofs.WordKinds.{Met, ends_options, met}
use Rattle.tv_cli.proofs.Arguments.{IsCommand, NamesFrom, check_knows, check_names, check_shape, is_check, is_log, is_make, log_knows, log_names, log_shape, make_knows, make_shape, names_of_check, names_of_log, names_of_make}
use Rattle.tv_cli.proofs.Steps.{AgreesFrom, IsFault, at, fault_left}
use Rattle.tv_cli.proofs.Walks.{AreTexts, walks}
use Rattle.tv_cli.proofs.Asking.{outcome_of, rows_with_defaults}
use Rattle.tv_cli.proofs.Defaults.{NoDefaults, default_fault-none, default_fault-flag}
use Rattle.tv_cli.proofs.CheckOutcome.{check-outcome}
use Rattle.tv_cli.proofs.MakeOutcome.{make-outcome}

-- ---- no default is a fault

abbrev QuietDefaults : List Rule → Type 0
QuietDefaults [] = Unit {0}
QuietDefaults (r ∷ rs) = ((rows : List Row) → default_fault rows r ≡ []) × QuietDefaults rs

defaults-step : (rules : List Rule) (rows : List Row) (r : Rule) → defaults_fault rows (r ∷ rules) ≡ or_else (default_fault rows r) (defaults_fault (with_default rows r) rules)
unfolding defaults_fault
defaults-step rules rows r = refl

no-rules : (rows : List Row) → defaults_fault rows [] ≡ []
unfolding defaults_fault
no-rules rows = refl

quiet-defaults : (rules : List Rule) (rows : List Row) → QuietDefaults rules → defaults_fault rows rules ≡ []
quiet-defaults [] rows quiet = no-rules rows
quiet-defaults (r ∷ rules) rows quiet = defaults-step rules rows r ∙ ap (λ kinds. or_else kinds (defaults_fault (with_default rows r) rules)) (quiet.0 rows) ∙ quiet-defaults rules (with_default rows r) quiet.1

none-quiet : (rules : List Rule) → NoDefaults rules → QuietDefaults rules
none-quiet [] none = tt
none-quiet (r ∷ rules) none = (default_fault-none r none.0, none-quiet rules none.1)

none-then-flag : (rules : List Rule) (id : Text) → NoDefaults rules → QuietDefaults (rules ++ filled (flag_rule id) ∷ [])
none-then-flag [] id none = (default_fault-flag id, tt)
none-then-flag (r ∷ rules) id none = (default_fault-none r none.0, none-then-flag rules id none.1)

check_defaults : QuietDefaults check_shape.rules
check_defaults = none-then-flag (take 10 check_shape.rules) (codes "first") (refl, (refl, (refl, (refl, (refl, (refl, (refl, (refl, (refl, (refl, tt))))))))))

log_defaults : QuietDefaults log_shape.rules
log_defaults = none-quiet log_shape.rules (refl, tt)

make_defaults : QuietDefaults make_shape.rules
make_defaults = none-quiet make_shape.rules (refl, (refl, (refl, (refl, (refl, (refl, (refl, (refl, (refl, (refl, tt))))))))))

-- ---- the words after a command

or_else-empty : (x y : Kinds) → or_else x y ≡ [] → (x ≡ []) × (y ≡ [])
or_else-empty [] y e = (refl, e)
or_else-empty (k ∷ ks) y e = absurd (subst IsFault e tt)

fault-through : (x y z : Kinds) → IsFault (or_else x y) → IsFault (or_else x (or_else y z))
fault-through [] y z f = fault_left y z f
fault-through (k ∷ ks) y z f = tt

unless_fault-fault : {A : Type 0} (kinds : Kinds) (found : Option A) → IsFault kinds → unless_fault kinds found ≡ None
unless_fault-fault [] found f = absurd f
unless_fault-fault (k ∷ ks) found f = refl

unless_fault-map : {A : Type 0} (f : A → Job) (kinds : Kinds) (found : Option A) → unless_fault kinds (option_map f found) ≡ option_map f (unless_fault kinds found)
unless_fault-map f [] found = refl
unless_fault-map f (k ∷ ks) found = refl

abbrev start : Walk
start = walk_from nothing_held

abbrev faults_after : Shape → List Text → Kinds
faults_after s ws = or_else (level_fault s [] nothing_held ws false []) []

-- of a command of which no default is a fault
module _ {A : Type 0} (knows : Knows) (s : Shape) (k : IsCommand knows s) (quiet : QuietDefaults s.rules) (read : List Row → Option A) where
  level : (ws : List Text) (o : Option (List Use)) → AgreesFrom knows s k o (at false [] None 1) ws → unless_fault (faults_after s ws) (read (rows_after s.rules [] ws)) ≡ outcome_of s read o
  level ws None fault =
      ap (λ again. unless_fault (or_else (or_else (walk_fault s [] start ws) (or_else (settle_fault s.rules again (fold (walked s.rules []) start ws).held) (after_settling again))) []) (read (rows_after s.rules [] ws))) k.again
      ∙ unless_fault-fault _ _ (fault_left _ [] (fault-through (walk_fault s [] start ws) (settle_fault s.rules false (fold (walked s.rules []) start ws).held) (after_settling false) fault))
    where
      after_settling : Bool → Kinds
      after_settling again = or_else (defaults_fault (settled s.rules (fold (walked s.rules []) start ws).held).rows s.rules) (check_fault s (finished s.rules (fold (walked s.rules []) start ws).held) false)
  level ws (Some us) agrees =
      let held : Held = (fold (walked s.rules []) start ws).held in
      let parts = or_else-empty (walk_fault s [] start ws) (settle_fault s.rules false held) agrees.0 in
      let settling : settle_fault s.rules s.args_override_self held ≡ [] = ap (λ again. settle_fault s.rules again held) k.again ∙ parts.1 in
      let rows : finished s.rules held ≡ rows_with_defaults s us = ap (λ found. fold with_default found s.rules) agrees.1 in
      let kinds : level_fault s [] nothing_held ws false [] ≡ check_fault s (rows_with_defaults s us) false =
      (λ i. or_else (parts.0 i) (or_else (settling i) (or_else (quiet-defaults s.rules (settled s.rules held).rows quiet i) (check_fault s (rows i) false)))) in
      ap₂ (λ x y. unless_fault (or_else x []) (read y)) kinds rows

  command_walked : (ids : List Text) → NamesFrom s.rules 1 ids → (ws : List Text) → AreTexts ws
      → unless_fault (faults_after s ws) (read (rows_after s.rules [] ws)) ≡ outcome_of s read (after knows (Some []) ids (parts_of None ws))
  command_walked ids names ws texts = level ws (after knows (Some []) ids (parts_of None ws)) ((walks knows s k ws texts).idles [] None ids 1 names tt)

check-parts : (parts : Option (List Part)) → outcome_of check_shape check_in_rows (after check_knows (Some []) check_names parts) ≡ check_in_parts parts
check-parts None = refl
check-parts (Some ps) = check-outcome ps

file_in_rows : List Row → Option Text
file_in_rows rows = first_of (codes "FILE") rows

log-parts : (parts : Option (List Part)) → outcome_of log_shape file_in_rows (after log_knows (Some []) log_names parts) ≡ file_in_parts parts
unfolding file_in_rows
log-parts None = refl
log-parts (Some []) = refl
log-parts (Some (option n v ∷ ps)) = refl
log-parts (Some (flag n ∷ ps)) = refl
log-parts (Some (name t ∷ [])) = refl
log-parts (Some (name t ∷ option n v ∷ ps)) = refl
log-parts (Some (name t ∷ flag n ∷ ps)) = refl
log-parts (Some (name t ∷ name u ∷ ps)) = refl

make-parts : (parts : Option (List Part)) → outcome_of make_shape make_in_rows (after make_knows (Some []) [] parts) ≡ make_in_parts parts
make-parts None = refl
make-parts (Some ps) = make-outcome ps

check_walked : (ws : List Text) → AreTexts ws → unless_fault (faults_after check_shape ws) (check_in_rows (rows_after check_shape.rules [] ws)) ≡ check_in_parts (parts_of None ws)
check_walked ws texts = command_walked check_knows check_shape is_check check_defaults check_in_rows check_names names_of_check ws texts ∙ check-parts (parts_of None ws)

log_walked : (ws : List Text) → AreTexts ws → unless_fault (faults_after log_shape ws) (file_in_rows (rows_after log_shape.rules [] ws)) ≡ file_in_parts (parts_of None ws)
log_walked ws texts = command_walked log_knows log_shape is_log log_defaults file_in_rows log_names names_of_log ws texts ∙ log-parts (parts_of None ws)

make_walked : (ws : List Text) → AreTexts ws → unless_fault (faults_after make_shape ws) (make_in_rows (rows_after make_shape.rules [] ws)) ≡ make_in_parts (parts_of None ws)
make_walked ws texts = command_walked make_knows make_shape is_make make_defaults make_in_rows [] names_of_make ws texts ∙ make-parts (parts_of None ws)

-- ---- the first word

abbrev tv : App
tv = built tv_app

stopped-fault : (s : Shape) (names : Names) (w : Walk) (stop : Text × List Text) (ws : List Text) → walk_fault s names (record w { stopped = Some stop }) ws ≡ []
unfolding walk_fault walked
stopped-fault s names w stop [] = refl
stopped-fault s names w stop (word ∷ ws) = stopped-fault s names w (stop.0, stop.1 ++ word ∷ []) ws

abbrev names : Names
names = (codes "check", []) ∷ (codes "log", []) ∷ (codes "make", []) ∷ []

walk_fault-step : (s : Shape) (ns : Names) (w : Walk) (word : Text) (ws : List Text) → walk_fault s ns w (word ∷ ws) ≡ or_else (turn_fault s ns w word) (walk_fault s ns (walked s.rules ns w word) ws)
unfolding walk_fault
walk_fault-step s ns w word ws = refl

-- the first word is this command
record IsMet (n command : Text) : Type 0 where
  turn : turn_fault tv.top names start command ≡ []
  step : walked [] names start command ≡ record start { stopped = Some (n, []) }

check-met : (command : Text) → bytes_eq (codes "check") command ≡ true → IsMet (codes "check") command
unfolding walked
check-met command e = record { turn = rw e refl; step = rw e refl }

log-met : (command : Text) → bytes_eq (codes "check") command ≡ false → bytes_eq (codes "log") command ≡ true → IsMet (codes "log") command
unfolding walked
log-met command e f = record { turn = rw (e, f) refl; step = rw (e, f) refl }

make-met : (command : Text) → bytes_eq (codes "check") command ≡ false → bytes_eq (codes "log") command ≡ false → bytes_eq (codes "make") command ≡ true → IsMet (codes "make") command
unfolding walked
make-met command e f g = record { turn = rw (e, f, g) refl; step = rw (e, f, g) refl }

met-walk : (n command : Text) (ws : List Text) → IsMet n command → walk [] names nothing_held (command ∷ ws) ≡ record start { stopped = Some (n, ws) }
met-walk n command ws m = ap (λ w. fold (walked [] names) w ws) m.step ∙ sym (walk_stopped [] names start n [] ws)

-- the faults of a walk of the words after the program's name, by its end
abbrev faults_at : Kinds → Walk → Kinds
faults_at kinds w =
    or_else kinds (or_else (entered_fault tv w.stopped) (or_else (settle_fault tv.top.rules tv.top.args_override_self w.held) (or_else (defaults_fault (settled tv.top.rules w.held).rows tv.top.rules) (check_fault tv.top (finished tv.top.rules w.held) (is_some (entered tv w.stopped))))))

faults-are : (program command : Text) (ws : List Text) → fault_of tv_app (program ∷ command ∷ ws) ≡ faults_at (walk_fault tv.top names start (command ∷ ws)) (walk [] names nothing_held (command ∷ ws))
faults-are program command ws = refl

met-fault : (program n command : Text) (ws : List Text) → IsMet n command → fault_of tv_app (program ∷ command ∷ ws) ≡ faults_at [] (record start { stopped = Some (n, ws) })
met-fault program n command ws m =
    let none : walk_fault tv.top names start (command ∷ ws) ≡ [] = walk_fault-step tv.top names start command ws
    ∙ ap₂ (λ x w. or_else x (walk_fault tv.top names w ws)) m.turn m.step
    ∙ stopped-fault tv.top names start (n, []) ws in
    faults-are program command ws ∙ ap₂ faults_at none (met-walk n command ws m)

met-entered : (program n command : Text) (ws : List Text) → IsMet n command → subcommand_of tv_app (program ∷ command ∷ ws) ≡ entered tv (Some (n, ws))
met-entered program n command ws m = ap (λ (w : Walk). entered tv w.stopped) (met-walk n command ws m)

check-fault : (ws : List Text) → faults_at [] (record start { stopped = Some (codes "check", ws) }) ≡ faults_after check_shape ws
unfolding defaults_fault
check-fault ws = refl

log-fault : (ws : List Text) → faults_at [] (record start { stopped = Some (codes "log", ws) }) ≡ faults_after log_shape ws
unfolding defaults_fault
log-fault ws = refl

make-fault : (ws : List Text) → faults_at [] (record start { stopped = Some (codes "make", ws) }) ≡ faults_after make_shape ws
unfolding defaults_fault
make-fault ws = refl

check-job : (program command : Text) (ws : List Text) → AreTexts ws → IsMet (codes "check") command → job_walked (program ∷ command ∷ ws) ≡ option_map check (check_in_parts (parts_of None ws))
check-job program command ws texts m =
    ap₂ (λ kinds found. unless_fault kinds (option_and_then job_in_rows found)) (met-fault program (codes "check") command ws m ∙ check-fault ws) (met-entered program (codes "check") command ws m)
    ∙ unless_fault-map check (faults_after check_shape ws) (check_in_rows (rows_after check_shape.rules [] ws))
    ∙ ap (option_map check) (check_walked ws texts)

log-job : (program command : Text) (ws : List Text) → AreTexts ws → IsMet (codes "log") command → job_walked (program ∷ command ∷ ws) ≡ option_map log (file_in_parts (parts_of None ws))
unfolding file_in_rows
log-job program command ws texts m =
    ap₂ (λ kinds found. unless_fault kinds (option_and_then job_in_rows found)) (met-fault program (codes "log") command ws m ∙ log-fault ws) (met-entered program (codes "log") command ws m)
    ∙ unless_fault-map log (faults_after log_shape ws) (file_in_rows (rows_after log_shape.rules [] ws))
    ∙ ap (option_map log) (log_walked ws texts)

make-job : (program command : Text) (ws : List Text) → AreTexts ws → IsMet (codes "make") command → job_walked (program ∷ command ∷ ws) ≡ option_map make (make_in_parts (parts_of None ws))
make-job program command ws texts m =
    ap₂ (λ kinds found. unless_fault kinds (option_and_then job_in_rows found)) (met-fault program (codes "make") command ws m ∙ make-fault ws) (met-entered program (codes "make") command ws m)
    ∙ unless_fault-map make (faults_after make_shape ws) (make_in_rows (rows_after make_shape.rules [] ws))
    ∙ ap (option_map make) (make_walked ws texts)

-- any other word is a fault, but for `--`
abbrev IsNoCommand : Text → Type 0
IsNoCommand command = (bytes_eq (codes "check") command ≡ false) × (bytes_eq (codes "log") command ≡ false) × (bytes_eq (codes "make") command ≡ false)

other-turn : (kind : Kind) (command : Text) → Met kind command → IsNoCommand command → (ends_options command ≡ true) ⊎ IsFault (turn_fault tv.top names start command)
unfolding flags_fault
other-turn end command m e = inl m
other-turn (attached n v) command m e = inr (rw (e.0, e.1, e.2, m.end, m.long) tt)
other-turn (separate n) command m e = inr (rw (e.0, e.1, e.2, m.end, m.long) tt)
other-turn dashed command m e = inr (rw (e.0, e.1, e.2, m.end, m.long, m.short, m.char) tt)
other-turn plain command m e = inr (rw (e.0, e.1, e.2, m.end, m.long, m.short) tt)

end-turn : (command : Text) → IsNoCommand command → ends_options command ≡ true → turn_fault tv.top names start command ≡ []
end-turn command e f = rw (e.0, e.1, e.2, f) refl

end-step : (command : Text) → IsNoCommand command → ends_options command ≡ true → walked [] names start command ≡ record start { is_trailing = true }
unfolding walked
end-step command e f = rw (e.0, e.1, e.2, f) refl

end-fault : (program command : Text) (ws : List Text) → IsNoCommand command → ends_options command ≡ true → IsFault (fault_of tv_app (program ∷ command ∷ ws))
unfolding walk_fault defaults_fault
end-fault program command [] e f =
    subst IsFault (sym (faults-are program command [] ∙ ap₂ faults_at (ap (λ x. or_else x []) (end-turn command e f)) (end-step command e f))) tt
end-fault program command (word ∷ ws) e f =
    let kinds : walk_fault tv.top names start (command ∷ word ∷ ws) ≡ or_else (turn_fault tv.top names (record start { is_trailing = true }) word) (walk_fault tv.top names (walked [] names (record start { is_trailing = true }) word) ws) =
    ap₂ (λ x w. or_else x (or_else (turn_fault tv.top names w word) (walk_fault tv.top names (walked [] names w word) ws))) (end-turn command e f) (end-step command e f) in
    subst IsFault (sym (faults-are program command (word ∷ ws))) (fault_left _ _ (subst IsFault (sym kinds) tt))

other-fault : (program command : Text) (ws : List Text) → IsUtf8 command → IsNoCommand command → IsFault (fault_of tv_app (program ∷ command ∷ ws))
other-fault program command ws utf8 e = elim (other-turn (kind_of command) command (met command utf8) e) [
  | inl f ↦ end-fault program command ws e f
  | inr fault ↦ subst IsFault (sym (faults-are program command ws)) (fault_left _ _ (subst IsFault (sym (walk_fault-step tv.top names start command ws)) (fault_left _ _ fault)))
]

pub walked-job : (words : List Text) → AreTexts words → job_walked words ≡ job_of words
unfolding clap_on_literals
walked-job [] texts = refl
walked-job (program ∷ []) texts = refl
walked-job (program ∷ command ∷ ws) texts = go (bytes_eq (codes "check") command) (bytes_eq (codes "log") command) (bytes_eq (codes "make") command) refl refl refl
  where
    go : (a b c : Bool) → bytes_eq (codes "check") command ≡ a → bytes_eq (codes "log") command ≡ b → bytes_eq (codes "make") command ≡ c
        → job_walked (program ∷ command ∷ ws)
        ≡ cond a (option_map check (check_in_parts (parts_of None ws))) (cond b (option_map log (file_in_parts (parts_of None ws))) (cond c (option_map make (make_in_parts (parts_of None ws))) None))
    go true b c e f g = check-job program command ws texts.1.1 (check-met command e)
    go false true c e f g = log-job program command ws texts.1.1 (log-met command e f)
    go false false true e f g = make-job program command ws texts.1.1 (make-met command e f g)
    go false false false e f g = unless_fault-fault _ _ (other-fault program command ws texts.1.0 (e, f, g))

module _ {Z : Type 0} where
  pub are_texts : (words : List (String Z)) → AreTexts (map string_bytes words)
  are_texts [] = tt
  are_texts (word ∷ words) = (IsUtf8-string_bytes word, are_texts words)

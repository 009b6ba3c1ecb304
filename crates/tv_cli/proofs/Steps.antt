-- One word of a walk of `clap` over the words of a command.
use Rattle.tv_cli.proofs.Common.{◌≡◌, ◌&&◌, ◌++◌, ◌+◌, ℕ, Bool, true, false, cond, refl, sym, ap, subst, ◌∙◌, min, AsWritten, CommandLine, repeat_fault, with_values, without, List, [], ◌∷◌, Option, Some, None, fold, and-false, bytes_eq, bytes_eq-Decides, Row, Kinds, usize_max, Waiting, Walk, arg_by_index, idle, is_pending, settled, used, walked, Rule, or_else, flags_fault, settle_fault, turn_fault, use_fault, walk_fault, Shape, Text}
use Rattle.clap.specs.Walk.{option}
use Rattle.clap.specs.declared.error.kind.ErrorKind.TheVariants as kind
use Rattle.tv_cli.proofs.Uses.{Knows, Use, flag_value, has, has_flag, has_option, has_row-uses, held_with, noted, pending_use, rows_of_uses, settle, used-first}
use Rattle.tv_cli.proofs.WordKinds.{IsPlain, IsDashed, IsLong, ends_options}
use Rattle.tv_cli.proofs.Arguments.{FlagOf, IsCommand, OptionOf, RuleOf}

abbrev pub IsFault : Kinds → Type 0
IsFault [] = ⊥
IsFault (k ∷ ks) = Unit {0}

pub fault_left : (x y : Kinds) → IsFault x → IsFault (or_else x y)
fault_left [] y f = absurd f
fault_left (k ∷ ks) y f = tt

-- the walk ends in a fault, or in the rows of these uses
abbrev pub Agrees : Option (List Use) → Kinds → List Row → Type 0
Agrees None kinds rows = IsFault kinds
Agrees (Some us) kinds rows = (kinds ≡ []) × (rows ≡ rows_of_uses us)

-- between two words; `trailing` says that `--` was met
abbrev pub at : Bool → List Use → Option Use → ℕ → Walk
at trailing us p position = record { held = held_with us p; waiting = idle; position = position; is_trailing = trailing; stopped = None }

-- the next word is the value of this option
abbrev pub awaiting : Bool → List Use → Text → ℕ → Walk
awaiting trailing us id position =
    record { held = record { rows = rows_of_uses us; pending = Some (id, []); skip = 0 }; waiting = option id; position = position; is_trailing = trailing; stopped = None }

-- the rows of what is held, with this pending
abbrev pub moved : Bool → List Row → Option (Text × List Text) → Waiting → ℕ → Walk
moved trailing rows pending waiting position = record { held = record { rows = rows; pending = pending; skip = 0 }; waiting = waiting; position = position; is_trailing = trailing; stopped = None }

same_text : (t : Text) → bytes_eq t t ≡ true
same_text t = (bytes_eq-Decides t t).1 refl

module _ (knows : Knows) (s : Shape) (k : IsCommand knows s) where
  -- the fault of the words from here on, without that of a missing argument
  abbrev pub kinds_from : Walk → List Text → Kinds
  kinds_from w ws = or_else (walk_fault s [] w ws) (settle_fault s.rules false (fold (walked s.rules []) w ws).held)

  abbrev pub rows_from : Walk → List Text → List Row
  rows_from w ws = (settled s.rules (fold (walked s.rules []) w ws).held).rows

  abbrev pub AgreesFrom : Option (List Use) → Walk → List Text → Type 0
  AgreesFrom o w ws = Agrees o (kinds_from w ws) (rows_from w ws)

  kinds_step : (w : Walk) (word : Text) (ws : List Text)
      → kinds_from w (word ∷ ws) ≡ or_else (or_else (turn_fault s [] w word) (walk_fault s [] (walked s.rules [] w word) ws)) (settle_fault s.rules false (fold (walked s.rules []) (walked s.rules [] w word) ws).held)
  unfolding walk_fault
  kinds_step w word ws = refl

  pub bad : (w : Walk) (word : Text) (ws : List Text) → IsFault (turn_fault s [] w word) → IsFault (kinds_from w (word ∷ ws))
  bad w word ws f = subst IsFault (sym (kinds_step w word ws)) (fault_left _ _ (fault_left _ _ f))

  pub next : (o : Option (List Use)) (w after : Walk) (word : Text) (ws : List Text) → turn_fault s [] w word ≡ [] → walked s.rules [] w word ≡ after → AgreesFrom o after ws → AgreesFrom o w (word ∷ ws)
  next o w after word ws none is agrees =
      let kinds : kinds_from w (word ∷ ws) ≡ kinds_from after ws = kinds_step w word ws
      ∙ (λ i. or_else (or_else (none i) (walk_fault s [] (is i) ws)) (settle_fault s.rules false (fold (walked s.rules []) (is i) ws).held)) in
      let rows : rows_from w (word ∷ ws) ≡ rows_from after ws = ap (λ v. rows_from v ws) is in
      subst (λ x. Agrees o x (rows_from w (word ∷ ws))) (sym kinds) (subst (λ x. Agrees o (kinds_from after ws) x) (sym rows) agrees)

  -- ---- what is pending

  abbrev pub Known : Option Use → Type 0
  Known None = Unit {0}
  Known (Some u) = RuleOf s.rules u.0

  -- an argument that may be used once
  once-agrees : (us : List Use) (u : Use) (kinds : Kinds) (rows : List Row) → kinds ≡ or_else (repeat_fault false u.0 (rows_of_uses us)) []
      → rows ≡ with_values u.0 AsWritten CommandLine (u.1 ∷ []) (without u.0 (rows_of_uses us)) → Agrees (noted us u) kinds rows
  once-agrees us u kinds rows fault is = go (has u.0 us) refl
    where
      fault_is : (b : Bool) → has u.0 us ≡ b → kinds ≡ or_else (cond (b && true) (kind.ArgumentConflict ∷ []) []) []
      fault_is b e = fault ∙ ap (λ x. or_else (cond (x && true) (kind.ArgumentConflict ∷ []) []) []) (has_row-uses u.0 us ∙ e)

      go : (b : Bool) → has u.0 us ≡ b → Agrees (cond b None (Some (us ++ u ∷ []))) kinds rows
      go true e = subst IsFault (sym (fault_is true e)) tt
      go false e = (fault_is false e, is ∙ used-first us u e)

  -- a use of an argument with one value
  pub use-agrees : (us : List Use) (u : Use) (r : RuleOf s.rules u.0) → Agrees (noted us u) (use_fault false r.rule (u.1 ∷ []) (rows_of_uses us)) (used r.rule (u.1 ∷ []) (rows_of_uses us))
  use-agrees us u r = once-agrees us u _ _ (r.fault u.1 (rows_of_uses us)) (r.used_is u.1 (rows_of_uses us))

  -- a word that is a whole use of an argument, whose rule has these values
  pub record IsUse (word : Text) (u : Use) : Type 0 where
    pub rule : Rule
    pub values : List Text
    pub agrees : (us : List Use) → Agrees (noted us u) (use_fault false rule values (rows_of_uses us)) (used rule values (rows_of_uses us))
    pub turn : (us : List Use) (p : Option Use) (position : ℕ)
        → turn_fault s [] (at false us p position) word ≡ or_else (or_else (settle_fault s.rules false (held_with us p)) (use_fault false rule values (settled s.rules (held_with us p)).rows)) []
    pub step : (us : List Use) (p : Option Use) (position : ℕ)
        → walked s.rules [] (at false us p position) word ≡ moved false (used rule values (settled s.rules (held_with us p)).rows) None idle position

  pub settles : (us : List Use) (p : Option Use) → Known p → Agrees (settle us p) (settle_fault s.rules false (held_with us p)) (settled s.rules (held_with us p)).rows
  settles us None known = (refl, refl)
  settles us (Some u) r = rw r.by_id (use-agrees us u r)

  -- ---- a word that is a name

  pub plain-turn : (us : List Use) (p : Option Use) (position : ℕ) (word id : Text) (r : RuleOf s.rules id) → arg_by_index s.rules position ≡ Some r.rule → IsPlain word
      → turn_fault s [] (at false us p position) word ≡ settle_fault s.rules false (held_with us p)
  plain-turn us p position word id r found plain = rw (plain.end, plain.long, plain.short, found, r.several, and-false (is_pending r.rule (pending_use p)), k.again) refl

  pub plain-walked : (us : List Use) (p : Option Use) (position : ℕ) (word id : Text) (r : RuleOf s.rules id) → arg_by_index s.rules position ≡ Some r.rule → IsPlain word
      → walked s.rules [] (at false us p position) word ≡ moved false (settled s.rules (held_with us p)).rows (Some (r.rule.id, word ∷ [])) idle (min (position + 1) usize_max)
  unfolding walked
  plain-walked us p position word id r found plain = rw (plain.end, plain.long, plain.short, found, r.several, and-false (is_pending r.rule (pending_use p)), r.multiple, r.trailing) refl

  pub plain-stray : (us : List Use) (p : Option Use) (position : ℕ) (word : Text) → arg_by_index s.rules position ≡ None → IsPlain word → IsFault (turn_fault s [] (at false us p position) word)
  plain-stray us p position word none plain = rw (plain.end, plain.long, plain.short, none, k.leaf) tt

  pub trailing-turn : (us : List Use) (p : Option Use) (position : ℕ) (word id : Text) (r : RuleOf s.rules id) → arg_by_index s.rules position ≡ Some r.rule
      → turn_fault s [] (at true us p position) word ≡ settle_fault s.rules false (held_with us p)
  trailing-turn us p position word id r found = rw (found, r.several, and-false (is_pending r.rule (pending_use p)), k.again) refl

  pub trailing-walked : (us : List Use) (p : Option Use) (position : ℕ) (word id : Text) (r : RuleOf s.rules id) → arg_by_index s.rules position ≡ Some r.rule
      → walked s.rules [] (at true us p position) word ≡ moved true (settled s.rules (held_with us p)).rows (Some (r.rule.id, word ∷ [])) idle (min (position + 1) usize_max)
  unfolding walked
  trailing-walked us p position word id r found = rw (found, r.several, and-false (is_pending r.rule (pending_use p)), r.multiple) refl

  pub trailing-stray : (us : List Use) (p : Option Use) (position : ℕ) (word : Text) → arg_by_index s.rules position ≡ None → IsFault (turn_fault s [] (at true us p position) word)
  trailing-stray us p position word none = rw (none, k.leaf) tt

  -- ---- `--`

  pub end-turn : (us : List Use) (p : Option Use) (position : ℕ) (word : Text) → ends_options word ≡ true → turn_fault s [] (at false us p position) word ≡ []
  end-turn us p position word end = rw end refl

  pub end-walked : (us : List Use) (p : Option Use) (position : ℕ) (word : Text) → ends_options word ≡ true → walked s.rules [] (at false us p position) word ≡ at true us p position
  unfolding walked
  end-walked us p position word end = rw end refl

  pub end-awaiting-turn : (us : List Use) (id : Text) (position : ℕ) (word : Text) → ends_options word ≡ true → turn_fault s [] (awaiting false us id position) word ≡ []
  end-awaiting-turn us id position word end = rw end refl

  pub end-awaiting-walked : (us : List Use) (id : Text) (position : ℕ) (word : Text) → ends_options word ≡ true → walked s.rules [] (awaiting false us id position) word ≡ awaiting true us id position
  unfolding walked
  end-awaiting-walked us id position word end = rw end refl

  -- ---- other words that begin with `-`

  pub dashed-turn : (us : List Use) (p : Option Use) (position : ℕ) (word : Text) → IsDashed word → IsFault (turn_fault s [] (at false us p position) word)
  unfolding flags_fault
  dashed-turn us p position word d = rw (d.end, d.long, d.short, d.char, k.no_short d.first) tt

  pub dashed-awaiting-turn : (us : List Use) (id : Text) (position : ℕ) (word : Text) → IsDashed word → IsFault (turn_fault s [] (awaiting false us id position) word)
  unfolding flags_fault
  dashed-awaiting-turn us id position word d = rw (d.end, d.long, d.short, d.char, k.no_short d.first) tt

  pub unknown-turn : (us : List Use) (p : Option Use) (position : ℕ) (word name : Text) (value : Option Text) → IsLong word name value → has_option knows name ≡ false → has_flag knows name ≡ false
      → IsFault (turn_fault s [] (at false us p position) word)
  unknown-turn us p position word name value l unknown no_flag = rw (l.end, l.long, k.unknown name unknown no_flag) tt

  -- `--name=value`
  attached-turn : (us : List Use) (p : Option Use) (position : ℕ) (word name value : Text) (o : OptionOf s.rules name) → IsLong word name (Some value)
      → turn_fault s [] (at false us p position) word ≡ or_else (or_else (settle_fault s.rules false (held_with us p)) (use_fault false o.of.rule (value ∷ []) (settled s.rules (held_with us p)).rows)) []
  attached-turn us p position word name value o l = rw (l.end, l.long, o.by_long, o.of.takes, k.again) refl

  attached-walked : (us : List Use) (p : Option Use) (position : ℕ) (word name value : Text) (o : OptionOf s.rules name) → IsLong word name (Some value)
      → walked s.rules [] (at false us p position) word ≡ moved false (used o.of.rule (value ∷ []) (settled s.rules (held_with us p)).rows) None idle position
  unfolding walked
  attached-walked us p position word name value o l = rw (l.end, l.long, o.by_long, o.of.takes) refl

  pub attached-use : (word name value : Text) (o : OptionOf s.rules name) → IsLong word name (Some value) → IsUse word (name, value)
  attached-use word name value o l = record {
    rule = o.of.rule;
    values = value ∷ [];
    agrees = λ us. use-agrees us (name, value) o.of;
    turn = λ us p position. attached-turn us p position word name value o l;
    step = λ us p position. attached-walked us p position word name value o l;
  }

  -- a name with a value that is no option
  pub attached-other : (us : List Use) (p : Option Use) (position : ℕ) (word name value : Text) → IsLong word name (Some value) → has_option knows name ≡ false → IsFault (turn_fault s [] (at false us p position) word)
  attached-other us p position word name value l unknown = go (has_flag knows name) refl
    where
      valued : FlagOf s.rules name → IsFault (turn_fault s [] (at false us p position) word)
      valued f = rw (l.end, l.long, f.by_long, f.takes) tt

      go : (b : Bool) → has_flag knows name ≡ b → IsFault (turn_fault s [] (at false us p position) word)
      go true e = valued (k.flagged name e)
      go false e = unknown-turn us p position word name (Some value) l unknown e

  -- `--name` of a flag
  flag-turn : (us : List Use) (p : Option Use) (position : ℕ) (word name : Text) (f : FlagOf s.rules name) → IsLong word name None
      → turn_fault s [] (at false us p position) word ≡ or_else (or_else (settle_fault s.rules false (held_with us p)) (use_fault false f.rule [] (settled s.rules (held_with us p)).rows)) []
  flag-turn us p position word name f l = rw (l.end, l.long, f.by_long, f.takes, k.again) refl

  flag-walked : (us : List Use) (p : Option Use) (position : ℕ) (word name : Text) (f : FlagOf s.rules name) → IsLong word name None
      → walked s.rules [] (at false us p position) word ≡ moved false (used f.rule [] (settled s.rules (held_with us p)).rows) None idle position
  unfolding walked
  flag-walked us p position word name f l = rw (l.end, l.long, f.by_long, f.takes) refl

  pub flag-use : (word name : Text) (f : FlagOf s.rules name) → IsLong word name None → IsUse word (name, flag_value)
  flag-use word name f l = record {
    rule = f.rule;
    values = [];
    agrees = λ us. once-agrees us (name, flag_value) _ _ (f.fault (rows_of_uses us)) (f.used_is (rows_of_uses us));
    turn = λ us p position. flag-turn us p position word name f l;
    step = λ us p position. flag-walked us p position word name f l;
  }

  -- `--name` of an option
  pub separate-turn : (us : List Use) (p : Option Use) (position : ℕ) (word name : Text) (o : OptionOf s.rules name) → IsLong word name None
      → turn_fault s [] (at false us p position) word ≡ or_else (settle_fault s.rules false (held_with us p)) []
  separate-turn us p position word name o l = rw (l.end, l.long, o.by_long, o.of.takes, k.again) refl

  pub separate-walked : (us : List Use) (p : Option Use) (position : ℕ) (word name : Text) (o : OptionOf s.rules name) → IsLong word name None
      → walked s.rules [] (at false us p position) word ≡ moved false (settled s.rules (held_with us p)).rows (Some (o.of.rule.id, [])) (option o.of.rule.id) position
  unfolding walked
  separate-walked us p position word name o l = rw (l.end, l.long, o.by_long, o.of.takes) refl

  -- ---- where an option waits for its value

  awaiting-settles : (us : List Use) (id : Text) (r : RuleOf s.rules id) → settle_fault s.rules false (record { rows = rows_of_uses us; pending = Some (id, []); skip = 0 }) ≡ kind.InvalidValue ∷ []
  awaiting-settles us id r = rw r.by_id (r.empty (rows_of_uses us))

  pub awaiting-end : (trailing : Bool) (us : List Use) (id : Text) (position : ℕ) → RuleOf s.rules id → IsFault (kinds_from (awaiting trailing us id position) [])
  unfolding walk_fault
  awaiting-end trailing us id position r = subst IsFault (sym (awaiting-settles us id r)) tt

  pub awaiting-plain-turn : (us : List Use) (id : Text) (position : ℕ) (word : Text) → IsPlain word → turn_fault s [] (awaiting false us id position) word ≡ []
  awaiting-plain-turn us id position word plain = rw (plain.end, plain.long, plain.short) refl

  pub awaiting-plain-walked : (us : List Use) (id : Text) (position : ℕ) (word : Text) (r : RuleOf s.rules id) → IsPlain word → walked s.rules [] (awaiting false us id position) word ≡ at false us (Some (id, word)) position
  unfolding walked
  awaiting-plain-walked us id position word r plain = rw (plain.end, plain.long, plain.short, r.by_id, r.id_is, r.most, same_text id) refl

  awaiting-unknown-turn : (us : List Use) (id : Text) (position : ℕ) (word name : Text) (value : Option Text) → IsLong word name value → has_option knows name ≡ false → has_flag knows name ≡ false
      → IsFault (turn_fault s [] (awaiting false us id position) word)
  awaiting-unknown-turn us id position word name value l unknown no_flag = rw (l.end, l.long, k.unknown name unknown no_flag) tt

  awaiting-option-turn : (us : List Use) (id : Text) (position : ℕ) (word name : Text) (value : Option Text) (r : RuleOf s.rules id) (o : OptionOf s.rules name) → IsLong word name value → IsFault (turn_fault s [] (awaiting false us id position) word)
  awaiting-option-turn us id position word name (Some value) r o l = rw (l.end, l.long, o.by_long, o.of.takes, k.again, awaiting-settles us id r) tt
  awaiting-option-turn us id position word name None r o l = rw (l.end, l.long, o.by_long, o.of.takes, k.again, awaiting-settles us id r) tt

  awaiting-flag-turn : (us : List Use) (id : Text) (position : ℕ) (word name : Text) (value : Option Text) (r : RuleOf s.rules id) (f : FlagOf s.rules name) → IsLong word name value → IsFault (turn_fault s [] (awaiting false us id position) word)
  awaiting-flag-turn us id position word name (Some value) r f l = rw (l.end, l.long, f.by_long, f.takes) tt
  awaiting-flag-turn us id position word name None r f l = rw (l.end, l.long, f.by_long, f.takes, k.again, awaiting-settles us id r) tt

  pub awaiting-long-turn : (us : List Use) (id : Text) (position : ℕ) (word name : Text) (value : Option Text) (r : RuleOf s.rules id) → IsLong word name value → IsFault (turn_fault s [] (awaiting false us id position) word)
  awaiting-long-turn us id position word name value r l = go (has_option knows name) (has_flag knows name) refl refl
    where
      go : (a b : Bool) → has_option knows name ≡ a → has_flag knows name ≡ b → IsFault (turn_fault s [] (awaiting false us id position) word)
      go true b e g = awaiting-option-turn us id position word name value r (k.known name e) l
      go false true e g = awaiting-flag-turn us id position word name value r (k.flagged name g) l
      go false false e g = awaiting-unknown-turn us id position word name value l e g

  -- after `--` the value never comes
  pub awaiting-trailing-turn : (us : List Use) (id : Text) (position : ℕ) (word other : Text) (r : RuleOf s.rules id) (q : RuleOf s.rules other) → arg_by_index s.rules position ≡ Some q.rule
      → IsFault (turn_fault s [] (awaiting true us id position) word)
  awaiting-trailing-turn us id position word other r q found = rw (found, q.several, and-false (bytes_eq id q.rule.id), k.again, awaiting-settles us id r) tt

  pub awaiting-trailing-stray : (us : List Use) (id : Text) (position : ℕ) (word : Text) → arg_by_index s.rules position ≡ None → IsFault (turn_fault s [] (awaiting true us id position) word)
  awaiting-trailing-stray us id position word none = rw (none, k.leaf) tt

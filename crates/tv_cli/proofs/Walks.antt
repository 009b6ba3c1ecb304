-- A walk of `clap` over the words of a command uses what their parts are, in order, or ends in a fault.
use Rattle.tv_cli.proofs.Common.{◌≡◌, ◌++◌, ℕ, Bool, true, false, cond, refl, sym, ap, subst, ◌∙◌, List, [], ◌∷◌, map, Option, Some, None, IsUtf8, Kinds, Waiting, idle, settled, used, walked, or_else, settle_fault, turn_fault, use_fault, walk_fault, Shape, Text, Kind, Part, kind_of, parts_from, parts_of, value_from, with_part, end, attached, separate, dashed, plain, option, flag, name, flags, is_option}
use Rattle.clap.specs.Walk.{option as option_waits}
use Rattle.tv_cli.proofs.Uses.{Knows, Use, flag_value, has, has_flag, has_option, held_with, noted, rows_of_uses, settle, taken, after}
use Rattle.tv_cli.proofs.WordKinds.{IsLong, IsPlain, Met, met}
use Rattle.tv_cli.proofs.Arguments.{IsCommand, NamesFrom, OptionOf, RuleOf, next_position}
use Rattle.tv_cli.proofs.Steps.{Agrees, AgreesFrom, IsFault, IsUse, Known, at, awaiting, bad, fault_left, kinds_from, moved, next, settles}
use Rattle.tv_cli.proofs.Steps.{plain-turn, plain-walked, plain-stray, trailing-turn, trailing-walked, trailing-stray, end-turn, end-walked, end-awaiting-turn, end-awaiting-walked, dashed-turn, dashed-awaiting-turn}
use Rattle.tv_cli.proofs.Steps.{unknown-turn, attached-use, attached-other, flag-use, separate-turn, separate-walked, awaiting-end, awaiting-plain-turn, awaiting-plain-walked, awaiting-long-turn, awaiting-trailing-turn, awaiting-trailing-stray}

-- ---- parts, by their uses

-- a part that is one more use
part-known : (knows : Knows) (us : List Use) (ids ids' : List Text) (u : Use) (part : Part) (parts : Option (List Part))
    → ((ps : List Part) → taken knows (part ∷ ps) us ids ≡ cond (has u.0 us) None (taken knows ps (us ++ u ∷ []) ids'))
    → after knows (Some us) ids (with_part part parts) ≡ after knows (noted us u) ids' parts
part-known knows us ids ids' u part None is = go (has u.0 us)
  where
    go : (b : Bool) → None ≡ after knows (cond b None (Some (us ++ u ∷ []))) ids' None
    go true = refl
    go false = refl
part-known knows us ids ids' u part (Some ps) is = is ps ∙ go (has u.0 us)
  where
    go : (b : Bool) → cond b None (taken knows ps (us ++ u ∷ []) ids') ≡ after knows (cond b None (Some (us ++ u ∷ []))) ids' (Some ps)
    go true = refl
    go false = refl

-- and one that is none
part-unknown : (knows : Knows) (o : Option (List Use)) (ids : List Text) (part : Part) (parts : Option (List Part))
    → ((us : List Use) (ps : List Part) → taken knows (part ∷ ps) us ids ≡ None) → after knows o ids (with_part part parts) ≡ None
part-unknown knows None ids part parts none = refl
part-unknown knows (Some us) ids part None none = refl
part-unknown knows (Some us) ids part (Some ps) none = none us ps

name-next : (knows : Knows) (us : List Use) (id : Text) (ids : List Text) (word : Text) (parts : Option (List Part))
    → after knows (Some us) (id ∷ ids) (with_part (name word) parts) ≡ after knows (noted us (id, word)) ids parts
name-next knows us id ids word parts = part-known knows us (id ∷ ids) ids (id, word) (name word) parts (λ ps. refl)

name-past : (knows : Knows) (o : Option (List Use)) (word : Text) (parts : Option (List Part)) → after knows o [] (with_part (name word) parts) ≡ None
name-past knows o word parts = part-unknown knows o [] (name word) parts (λ us ps. refl)

option-known : (knows : Knows) (us : List Use) (ids : List Text) (n v : Text) (parts : Option (List Part)) → has_option knows n ≡ true
    → after knows (Some us) ids (with_part (option n v) parts) ≡ after knows (noted us (n, v)) ids parts
option-known knows us ids n v parts e = part-known knows us ids ids (n, v) (option n v) parts (λ ps. ap (λ x. cond x (cond (has n us) None (taken knows ps (us ++ (n, v) ∷ []) ids)) None) e)

option-unknown : (knows : Knows) (o : Option (List Use)) (ids : List Text) (n v : Text) (parts : Option (List Part)) → has_option knows n ≡ false → after knows o ids (with_part (option n v) parts) ≡ None
option-unknown knows o ids n v parts e = part-unknown knows o ids (option n v) parts (λ us ps. ap (λ x. cond x (cond (has n us) None (taken knows ps (us ++ (n, v) ∷ []) ids)) None) e)

flag-known : (knows : Knows) (us : List Use) (ids : List Text) (n : Text) (parts : Option (List Part)) → has_flag knows n ≡ true
    → after knows (Some us) ids (with_part (flag n) parts) ≡ after knows (noted us (n, flag_value)) ids parts
flag-known knows us ids n parts e = part-known knows us ids ids (n, flag_value) (flag n) parts (λ ps. ap (λ x. cond x (cond (has n us) None (taken knows ps (us ++ (n, flag_value) ∷ []) ids)) None) e)

flag-unknown : (knows : Knows) (o : Option (List Use)) (ids : List Text) (n : Text) (parts : Option (List Part)) → has_flag knows n ≡ false → after knows o ids (with_part (flag n) parts) ≡ None
flag-unknown knows o ids n parts e = part-unknown knows o ids (flag n) parts (λ us ps. ap (λ x. cond x (cond (has n us) None (taken knows ps (us ++ (n, flag_value) ∷ []) ids)) None) e)

no-parts : (knows : Knows) (o : Option (List Use)) (ids : List Text) → after knows o ids None ≡ None
no-parts knows None ids = refl
no-parts knows (Some us) ids = refl

value-unknown : (knows : Knows) (o : Option (List Use)) (ids : List Text) (n : Text) (ws : List Text) → has_option knows n ≡ false → after knows o ids (parts_of (Some n) ws) ≡ None
value-unknown knows o ids n [] e = no-parts knows o ids
value-unknown knows o ids n (word ∷ ws) e = go (kind_of word)
  where
    go : (kind : Kind) → after knows o ids (value_from n word (parts_of None ws) kind) ≡ None
    go plain = option-unknown knows o ids n word (parts_of None ws) e
    go end = no-parts knows o ids
    go (attached m v) = no-parts knows o ids
    go (separate m) = no-parts knows o ids
    go dashed = no-parts knows o ids

pub or_else-nil : (x : Kinds) → or_else x [] ≡ x
or_else-nil [] = refl
or_else-nil (k ∷ ks) = refl

abbrev pub AreTexts : List Text → Type 0
AreTexts [] = Unit {0}
AreTexts (word ∷ ws) = IsUtf8 word × AreTexts ws

module _ (knows : Knows) (s : Shape) (k : IsCommand knows s) where
  -- a word that first settles what is pending
  settle-step : (t : Bool) (us : List Use) (p : Option Use) (word : Text) (ws : List Text) (position after_it : ℕ) (B : Option (List Use) → Option (List Use)) (pending : Option (Text × List Text)) (waiting : Waiting)
      → B None ≡ None → Known knows s k p → turn_fault s [] (at t us p position) word ≡ settle_fault s.rules false (held_with us p)
      → walked s.rules [] (at t us p position) word ≡ moved t (settled s.rules (held_with us p)).rows pending waiting after_it
      → ((vs : List Use) → AgreesFrom knows s k (B (Some vs)) (moved t (rows_of_uses vs) pending waiting after_it) ws)
      → AgreesFrom knows s k (B (settle us p)) (at t us p position) (word ∷ ws)
  settle-step t us p word ws position after_it B pending waiting none known turn is rest = go (settle us p) (settles knows s k us p known)
    where
      go : (o : Option (List Use)) → Agrees o (settle_fault s.rules false (held_with us p)) (settled s.rules (held_with us p)).rows → AgreesFrom knows s k (B o) (at t us p position) (word ∷ ws)
      go None fault =
          subst (λ o. AgreesFrom knows s k o (at t us p position) (word ∷ ws)) (sym none) (bad knows s k (at t us p position) word ws (subst IsFault (sym turn) fault))
      go (Some vs) agrees = next knows s k (B (Some vs)) (at t us p position) (moved t (rows_of_uses vs) pending waiting after_it) word ws (turn ∙ agrees.0) (is ∙ ap (λ rows. moved t rows pending waiting after_it) agrees.1) (rest vs)

  -- ---- after `--`

  pub trails : (ws : List Text) (us : List Use) (p : Option Use) (ids : List Text) (position : ℕ) → NamesFrom s.rules position ids → Known knows s k p → AgreesFrom knows s k (after knows (settle us p) ids (Some (map name ws))) (at true us p position) ws
  unfolding walk_fault
  trails [] us p ids position names known = go (settle us p) (settles knows s k us p known)
    where
      go : (o : Option (List Use)) → Agrees o (settle_fault s.rules false (held_with us p)) (settled s.rules (held_with us p)).rows
          → Agrees (after knows o ids (Some [])) (settle_fault s.rules false (held_with us p)) (settled s.rules (held_with us p)).rows
      go None agrees = agrees
      go (Some vs) agrees = agrees
  trails (word ∷ ws) us p (id ∷ ids) position names known =
      settle-step true us p word ws position (next_position position) (λ o. after knows o (id ∷ ids) (Some (name word ∷ map name ws))) (Some (id, word ∷ [])) idle refl known (trailing-turn knows s k us p position word id names.0.of names.0.found)
      (trailing-walked knows s k us p position word id names.0.of names.0.found ∙ ap (λ i. moved true (settled s.rules (held_with us p)).rows (Some (i, word ∷ [])) idle (next_position position)) names.0.of.id_is)
      (λ vs. subst (λ o. AgreesFrom knows s k o (at true vs (Some (id, word)) (next_position position)) ws) (sym (name-next knows vs id ids word (Some (map name ws)))) (trails ws vs (Some (id, word)) ids (next_position position) names.1 names.0.of))
  trails (word ∷ ws) us p [] position none known =
      subst (λ o. AgreesFrom knows s k o (at true us p position) (word ∷ ws)) (sym (name-past knows (settle us p) word (Some (map name ws)))) (bad knows s k (at true us p position) word ws (trailing-stray knows s k us p position word none))

  broken : (ws : List Text) (us : List Use) (id : Text) (ids : List Text) (position : ℕ) → NamesFrom s.rules position ids → RuleOf s.rules id → IsFault (kinds_from knows s k (awaiting true us id position) ws)
  broken [] us id ids position names r = awaiting-end knows s k true us id position r
  broken (word ∷ ws) us id (other ∷ ids) position names r = bad knows s k (awaiting true us id position) word ws (awaiting-trailing-turn knows s k us id position word other r names.0.of names.0.found)
  broken (word ∷ ws) us id [] position none r = bad knows s k (awaiting true us id position) word ws (awaiting-trailing-stray knows s k us id position word none)

  -- ---- all words

  pub record Walks (ws : List Text) : Type 0 where
    pub idles : (us : List Use) (p : Option Use) (ids : List Text) (position : ℕ) → NamesFrom s.rules position ids → Known knows s k p → AgreesFrom knows s k (after knows (settle us p) ids (parts_of None ws)) (at false us p position) ws
    pub waits : (us : List Use) (n : Text) (ids : List Text) (position : ℕ) → NamesFrom s.rules position ids → has_option knows n ≡ true → AgreesFrom knows s k (after knows (Some us) ids (parts_of (Some n) ws)) (awaiting false us n position) ws

  use-step : (word : Text) (u : Use) (part : Part) (ws : List Text) → Walks ws → (met_use : IsUse knows s k word u)
      → ((us : List Use) (ids : List Text) → after knows (Some us) ids (with_part part (parts_of None ws)) ≡ after knows (noted us u) ids (parts_of None ws))
      → (us : List Use) (p : Option Use) (ids : List Text) (position : ℕ) → NamesFrom s.rules position ids → Known knows s k p
      → AgreesFrom knows s k (after knows (settle us p) ids (with_part part (parts_of None ws))) (at false us p position) (word ∷ ws)
  use-step word u part ws ih met_use is_next us p ids position names known = go (settle us p) (settles knows s k us p known)
    where
      more : (vs : List Use) (q : Option (List Use)) → turn_fault s [] (at false us p position) word ≡ use_fault false met_use.rule met_use.values (rows_of_uses vs)
          → walked s.rules [] (at false us p position) word ≡ moved false (used met_use.rule met_use.values (rows_of_uses vs)) None idle position
          → Agrees q (use_fault false met_use.rule met_use.values (rows_of_uses vs)) (used met_use.rule met_use.values (rows_of_uses vs))
          → AgreesFrom knows s k (after knows q ids (parts_of None ws)) (at false us p position) (word ∷ ws)
      more vs None turn is fault = bad knows s k (at false us p position) word ws (subst IsFault (sym turn) fault)
      more vs (Some us') turn is agrees =
          next knows s k (after knows (Some us') ids (parts_of None ws)) (at false us p position) (at false us' None position) word ws (turn ∙ agrees.0) (is ∙ ap (λ rows. moved false rows None idle position) agrees.1) (ih.idles us' None ids position names tt)

      go : (q : Option (List Use)) → Agrees q (settle_fault s.rules false (held_with us p)) (settled s.rules (held_with us p)).rows
          → AgreesFrom knows s k (after knows q ids (with_part part (parts_of None ws))) (at false us p position) (word ∷ ws)
      go None fault =
          bad knows s k (at false us p position) word ws (subst IsFault (sym (met_use.turn us p position)) (fault_left _ [] (fault_left _ (use_fault false met_use.rule met_use.values (settled s.rules (held_with us p)).rows) fault)))
      go (Some vs) agrees =
          subst (λ q. AgreesFrom knows s k q (at false us p position) (word ∷ ws)) (sym (is_next vs ids))
          (more vs (noted vs u)
          (met_use.turn us p position ∙ (λ i. or_else (or_else (agrees.0 i) (use_fault false met_use.rule met_use.values (agrees.1 i))) []) ∙ or_else-nil (use_fault false met_use.rule met_use.values (rows_of_uses vs)))
          (met_use.step us p position ∙ ap (λ rows. moved false (used met_use.rule met_use.values rows) None idle position) agrees.1)
          (met_use.agrees vs))

  separate-step : (word n : Text) (ws : List Text) → Walks ws → IsLong word n None → (us : List Use) (p : Option Use) (ids : List Text) (position : ℕ) → NamesFrom s.rules position ids → Known knows s k p → has_option knows n ≡ true
      → AgreesFrom knows s k (after knows (settle us p) ids (parts_of (Some n) ws)) (at false us p position) (word ∷ ws)
  separate-step word n ws ih l us p ids position names known e =
      let o : OptionOf s.rules n = k.known n e in
      settle-step false us p word ws position position (λ q. after knows q ids (parts_of (Some n) ws)) (Some (n, [])) (option_waits n) refl known
      (separate-turn knows s k us p position word n o l ∙ or_else-nil (settle_fault s.rules false (held_with us p)))
      (separate-walked knows s k us p position word n o l ∙ ap (λ id. moved false (settled s.rules (held_with us p)).rows (Some (id, [])) (option_waits id) position) o.of.id_is)
      (λ vs. ih.waits vs n ids position names e)

  plain-step : (word : Text) (ws : List Text) → Walks ws → IsPlain word → (us : List Use) (p : Option Use) (ids : List Text) (position : ℕ) → NamesFrom s.rules position ids → Known knows s k p
      → AgreesFrom knows s k (after knows (settle us p) ids (with_part (name word) (parts_of None ws))) (at false us p position) (word ∷ ws)
  plain-step word ws ih l us p (id ∷ ids) position names known =
      settle-step false us p word ws position (next_position position) (λ o. after knows o (id ∷ ids) (with_part (name word) (parts_of None ws))) (Some (id, word ∷ [])) idle refl known (plain-turn knows s k us p position word id names.0.of names.0.found l)
      (plain-walked knows s k us p position word id names.0.of names.0.found l ∙ ap (λ i. moved false (settled s.rules (held_with us p)).rows (Some (i, word ∷ [])) idle (next_position position)) names.0.of.id_is)
      (λ vs. subst (λ o. AgreesFrom knows s k o (at false vs (Some (id, word)) (next_position position)) ws) (sym (name-next knows vs id ids word (parts_of None ws))) (ih.idles vs (Some (id, word)) ids (next_position position) names.1 names.0.of))
  plain-step word ws ih l us p [] position none known =
      subst (λ o. AgreesFrom knows s k o (at false us p position) (word ∷ ws)) (sym (name-past knows (settle us p) word (parts_of None ws))) (bad knows s k (at false us p position) word ws (plain-stray knows s k us p position word none l))

  -- `--name`, which is no option
  flag-step : (word n : Text) (ws : List Text) → Walks ws → IsLong word n None → (us : List Use) (p : Option Use) (ids : List Text) (position : ℕ) → NamesFrom s.rules position ids → Known knows s k p → has_option knows n ≡ false
      → AgreesFrom knows s k (after knows (settle us p) ids (with_part (flag n) (parts_of None ws))) (at false us p position) (word ∷ ws)
  flag-step word n ws ih l us p ids position names known no_option = go (has_flag knows n) refl
    where
      go : (b : Bool) → has_flag knows n ≡ b → AgreesFrom knows s k (after knows (settle us p) ids (with_part (flag n) (parts_of None ws))) (at false us p position) (word ∷ ws)
      go true e = use-step word (n, flag_value) (flag n) ws ih (flag-use knows s k word n (k.flagged n e) l) (λ vs names. flag-known knows vs names n (parts_of None ws) e) us p ids position names known
      go false e =
          subst (λ o. AgreesFrom knows s k o (at false us p position) (word ∷ ws)) (sym (flag-unknown knows (settle us p) ids n (parts_of None ws) e)) (bad knows s k (at false us p position) word ws (unknown-turn knows s k us p position word n None l no_option e))

  -- `--name`, which is no flag
  option-step : (word n : Text) (ws : List Text) → Walks ws → IsLong word n None → (us : List Use) (p : Option Use) (ids : List Text) (position : ℕ) → NamesFrom s.rules position ids → Known knows s k p → has_flag knows n ≡ false
      → AgreesFrom knows s k (after knows (settle us p) ids (parts_of (Some n) ws)) (at false us p position) (word ∷ ws)
  option-step word n ws ih l us p ids position names known no_flag = go (has_option knows n) refl
    where
      go : (b : Bool) → has_option knows n ≡ b → AgreesFrom knows s k (after knows (settle us p) ids (parts_of (Some n) ws)) (at false us p position) (word ∷ ws)
      go true e = separate-step word n ws ih l us p ids position names known e
      go false e =
          subst (λ o. AgreesFrom knows s k o (at false us p position) (word ∷ ws)) (sym (value-unknown knows (settle us p) ids n ws e)) (bad knows s k (at false us p position) word ws (unknown-turn knows s k us p position word n None l e no_flag))

  idle-step : (kind : Kind) (word : Text) → Met kind word → (ws : List Text) → Walks ws → (us : List Use) (p : Option Use) (ids : List Text) (position : ℕ) → NamesFrom s.rules position ids → Known knows s k p
      → AgreesFrom knows s k (after knows (settle us p) ids (parts_from word ws (parts_of None ws) (λ n. parts_of (Some n) ws) kind)) (at false us p position) (word ∷ ws)
  idle-step end word m ws ih us p ids position names known =
      next knows s k (after knows (settle us p) ids (Some (map name ws))) (at false us p position) (at true us p position) word ws (end-turn knows s k us p position word m) (end-walked knows s k us p position word m) (trails ws us p ids position names known)
  idle-step (attached n v) word m ws ih us p ids position names known = go (has_option knows n) refl
    where
      go : (b : Bool) → has_option knows n ≡ b → AgreesFrom knows s k (after knows (settle us p) ids (with_part (option n v) (parts_of None ws))) (at false us p position) (word ∷ ws)
      go true e = use-step word (n, v) (option n v) ws ih (attached-use knows s k word n v (k.known n e) m) (λ vs names. option-known knows vs names n v (parts_of None ws) e) us p ids position names known
      go false e =
          subst (λ o. AgreesFrom knows s k o (at false us p position) (word ∷ ws)) (sym (option-unknown knows (settle us p) ids n v (parts_of None ws) e)) (bad knows s k (at false us p position) word ws (attached-other knows s k us p position word n v m e))
  idle-step (separate n) word m ws ih us p ids position names known = go (is_option flags n) refl
    where
      go : (b : Bool) → is_option flags n ≡ b → AgreesFrom knows s k (after knows (settle us p) ids (cond b (with_part (flag n) (parts_of None ws)) (parts_of (Some n) ws))) (at false us p position) (word ∷ ws)
      go true e = flag-step word n ws ih m us p ids position names known (k.no_option n e)
      go false e = option-step word n ws ih m us p ids position names known (k.no_flag n e)
  idle-step dashed word m ws ih us p ids position names known =
      subst (λ o. AgreesFrom knows s k o (at false us p position) (word ∷ ws)) (sym (no-parts knows (settle us p) ids)) (bad knows s k (at false us p position) word ws (dashed-turn knows s k us p position word m))
  idle-step plain word m ws ih us p ids position names known = plain-step word ws ih m us p ids position names known

  waits-step : (kind : Kind) (word : Text) → Met kind word → (ws : List Text) → Walks ws → (us : List Use) (n : Text) (ids : List Text) (position : ℕ) → NamesFrom s.rules position ids → has_option knows n ≡ true
      → AgreesFrom knows s k (after knows (Some us) ids (value_from n word (parts_of None ws) kind)) (awaiting false us n position) (word ∷ ws)
  waits-step plain word m ws ih us n ids position names e =
      let o : OptionOf s.rules n = k.known n e in
      next knows s k (after knows (Some us) ids (with_part (option n word) (parts_of None ws))) (awaiting false us n position) (at false us (Some (n, word)) position) word ws (awaiting-plain-turn knows s k us n position word m) (awaiting-plain-walked knows s k us n position word o.of m)
      (subst (λ q. AgreesFrom knows s k q (at false us (Some (n, word)) position) ws) (sym (option-known knows us ids n word (parts_of None ws) e)) (ih.idles us (Some (n, word)) ids position names o.of))
  waits-step end word m ws ih us n ids position names e =
      next knows s k None (awaiting false us n position) (awaiting true us n position) word ws (end-awaiting-turn knows s k us n position word m) (end-awaiting-walked knows s k us n position word m) (broken ws us n ids position names (k.known n e).of)
  waits-step (attached other v) word m ws ih us n ids position names e = bad knows s k (awaiting false us n position) word ws (awaiting-long-turn knows s k us n position word other (Some v) (k.known n e).of m)
  waits-step (separate other) word m ws ih us n ids position names e = bad knows s k (awaiting false us n position) word ws (awaiting-long-turn knows s k us n position word other None (k.known n e).of m)
  waits-step dashed word m ws ih us n ids position names e = bad knows s k (awaiting false us n position) word ws (dashed-awaiting-turn knows s k us n position word m)

  no-words : (us : List Use) (p : Option Use) (ids : List Text) (position : ℕ) → NamesFrom s.rules position ids → Known knows s k p → AgreesFrom knows s k (after knows (settle us p) ids (Some [])) (at false us p position) []
  unfolding walk_fault
  no-words us p ids position names known = go (settle us p) (settles knows s k us p known)
    where
      go : (o : Option (List Use)) → Agrees o (settle_fault s.rules false (held_with us p)) (settled s.rules (held_with us p)).rows
          → Agrees (after knows o ids (Some [])) (settle_fault s.rules false (held_with us p)) (settled s.rules (held_with us p)).rows
      go None agrees = agrees
      go (Some vs) agrees = agrees

  pub walks : (ws : List Text) → AreTexts ws → Walks ws
  walks [] texts = record { idles = no-words; waits = λ us n ids position names e. awaiting-end knows s k false us n position (k.known n e).of }
  walks (word ∷ ws) texts =
      let ih = walks ws texts.1 in
      let m = met word texts.0 in
      record { idles = idle-step (kind_of word) word m ws ih; waits = waits-step (kind_of word) word m ws ih }

-- What is printed of a module reads back, where printed tokens spell functions.
use Rattle.read_back.proofs.Common.{◌≡◌, ℕ, ◌≤◌, true, false, List, [], ◌∷◌, ◌++◌, length, map, Ok, Result, refl, sym, ap, ◌∙◌, subst, arith, flat_map, AllZip, IsDistinct, Lexeme, same_name, IsWellFormed, Function, Refused, Entry, Define, WrittenFunction, numbered, IsFunction, well_formed, without_places, Piece, text_of, spelled, LexesTo, none, line, accepted, accepted_first, functions_pieces, has_any, last_end, module_text, IsSameFunction, AreSameFound, AreSameEntries, ReadsBack, PrintedModulesReadBack}
use Rattle.ir_tree.specs.declared.module.Module.{Module}
use Rattle.ir_grammar.proofs.PlainGrammar.{plain-define}
use Rattle.ir_reader.specs.Module.{tokens_of, AreEntries}
use Rattle.token_text.proofs.Lexed.{texts-lexed}
use Rattle.read_back.proofs.Written.{written_pieces}
use Rattle.read_back.proofs.Spellable.{IsSpellable}
use Rattle.read_back.proofs.Steps.{SpellableIsSpelled}
use Rattle.read_back.proofs.NumbersPlaceless.{placeless_is_same}
use Rattle.read_back.proofs.Apart.{functions-apart}
use Rattle.read_back.proofs.Cut.{token_of, function_tokens, tokens-all, Matches, tokens-cut}
use Rattle.read_back.proofs.ReadBackPlaces.{well_formed-same, same-back, same-then}
use Rattle.read_back.proofs.ReadBackFunctions.{Writes, all-written, first-pieces, names-written, length-written, all-spellable}

-- ---- a function

-- the tokens are a function that is the same
pub record IsReadAs (tokens : List Lexeme) (f : Function) : Type 0 where
  pub function : Function
  pub is : IsFunction tokens (Ok function)
  pub same : IsSameFunction f function

-- the tokens that are printed of a function are that function
pub read-as : SpellableIsSpelled → (w : WrittenFunction) (f : Function) → IsSpellable w
    → IsSameFunction (numbered w) f → IsWellFormed (numbered w) → (tokens : List Lexeme)
    → map spelled tokens ≡ function_tokens w → IsReadAs tokens f
read-as spelled_so w f spellable same well tokens e =
    let other = spelled_so none w spellable tokens e in
    let found : IsSameFunction (numbered w) (numbered other.0) =
    placeless_is_same w other.0 other.2 in
    let same_as = same-then f (numbered w) (numbered other.0) (same-back (numbered w) f same) found in
    record {
      function = without_places (numbered other.0);
      is = well_formed other.0 ((plain-define true other.0 tokens).0 other.1)
          (well_formed-same (numbered w) (numbered other.0) found well);
      same = ap without_places same_as;
    }

-- ---- the entries

record Entered (tokens : List Lexeme) (es : List Entry) (defines : List Define) : Type 0 where
  entries : List Entry
  are : AreEntries tokens defines entries
  same : AreSameEntries es entries

found_so : (r : Result Function Refused) (f g : Function) → r ≡ Ok f → IsSameFunction f g
    → AreSameFound r (Ok g)
found_so r f g e same = subst (λ (s : Result Function Refused). AreSameFound s (Ok g)) (sym e) same

entered : SpellableIsSpelled → (tokens : List Lexeme) (es : List Entry) (ws : List WrittenFunction)
    (defines : List Define) → AllZip Writes es ws → AllZip (Matches tokens) ws defines
    → Entered tokens es defines
entered s tokens [] [] [] h k = record { entries = []; are = tt; same = tt }
entered s tokens [] [] (d ∷ defines) h k = absurd k
entered s tokens [] (w ∷ ws) defines h k = absurd h
entered s tokens (e ∷ es) [] defines h k = absurd h
entered s tokens (e ∷ es) (w ∷ ws) [] h k = absurd k
entered s tokens (e ∷ es) (w ∷ ws) (d ∷ defines) h k =
    let r = read-as s w h.0.function h.0.spellable h.0.same h.0.well_formed
    (tokens_of tokens d) k.0.same in
    let others = entered s tokens es ws defines h.1 k.1 in
    record {
      entries = record { name = d.name; function = Ok r.function } ∷ others.entries;
      are = (record { name = refl; function = r.is }, others.are);
      same = (
        record {
          name = k.0.named ∙ sym h.0.named;
          function = found_so e.function h.0.function r.function h.0.accepted r.same;
        },
        others.same,
      );
    }

-- ---- the module

back : SpellableIsSpelled → (text : List ℕ) (pieces : List Piece) (m : Module)
    (ws : List WrittenFunction) → AllZip Writes m.entries ws → length m.entries ≤ 4096
    → IsDistinct same_name (map (λ (e : Entry). e.name) m.entries)
    → LexesTo text pieces → map token_of pieces ≡ flat_map function_tokens ws → ReadsBack text m
back s text pieces m ws h few different lexes e =
    let whole : map spelled lexes.tokens ≡ flat_map function_tokens ws = lexes.same ∙ e in
    let count = length-written m.entries ws h in
    let distinct = subst (IsDistinct same_name) (names-written m.entries ws h) different in
    let cut = tokens-cut lexes.tokens ws whole (all-spellable m.entries ws h)
    (omega (arith, count, few)) distinct in
    let all = entered s lexes.tokens m.entries ws cut.defines h cut.each in
    record {
      read = record { entries = all.entries };
      is_module = record {
        tokens = lexes.tokens;
        lexed_so = lexes.lexed_so;
        defines = cut.defines;
        cut = cut.cut;
        entries = all.are;
      };
      same = all.same;
    }

text_with : (pieces : List Piece) (fs : List Function) (more : List ℕ)
    → functions_pieces false fs ≡ pieces → last_end (has_any false fs) ≡ more
    → text_of (functions_pieces false fs) ++ last_end (has_any false fs) ≡ text_of pieces ++ more
text_with pieces fs more e f = ap (λ (ps : List Piece). text_of ps ++ last_end (has_any false fs)) e
    ∙ ap (λ (l : List ℕ). text_of pieces ++ l) f

printed : SpellableIsSpelled → (es : List Entry) (ws : List WrittenFunction) → AllZip Writes es ws
    → length es ≤ 4096 → IsDistinct same_name (map (λ (e : Entry). e.name) es)
    → ReadsBack (module_text (record { entries = es })) (record { entries = es })
printed s [] [] h few different =
    back s [] [] (record { entries = [] }) [] tt few different (texts-lexed [] [] refl tt) refl
printed s [] (w ∷ ws) h few different = absurd h
printed s (e ∷ es) [] h few different = absurd h
printed s (e ∷ es) (w ∷ ws) h few different =
    let gap : List ℕ = 10 ∷ 10 ∷ [] in
    let pieces : List Piece = written_pieces none w ++ flat_map (written_pieces gap) ws in
    let end : last_end (has_any false (accepted (e ∷ es))) ≡ line =
    ap (λ (r : Result Function Refused). last_end (has_any false (accepted_first r (accepted es))))
    h.0.accepted in
    let text : module_text (record { entries = e ∷ es }) ≡ text_of pieces ++ line =
    text_with pieces (accepted (e ∷ es)) line (first-pieces e es w ws h) end in
    subst (λ (t : List ℕ). ReadsBack t (record { entries = e ∷ es })) (sym text)
    (back s (text_of pieces ++ line) pieces (record { entries = e ∷ es }) (w ∷ ws) h few different
    (texts-lexed pieces line refl (functions-apart w ws h.0.spellable (all-spellable es ws h.1)))
    (tokens-all gap w ws))

pub modules-read_back : SpellableIsSpelled → PrintedModulesReadBack
modules-read_back s m h =
    let ws = all-written m.entries h.each in
    printed s m.entries ws.0 ws.1 h.few h.different

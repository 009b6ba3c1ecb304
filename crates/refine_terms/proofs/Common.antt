-- What proofs of this crate cite of std, of other crates and of its definitions, passed on from one place. Declares nothing.
pub use Rattle.std.proofs.Common.{ℕ, ◌≡◌, ◌+◌, cond, not, ◌&&◌, ◌||◌, List, nat_eq, nat_lt, refl, ap, ◌∙◌, ◌<◌, ◌≤◌, ◌-◌, Bool, true, false, length, map, take, drop, get_or, sym, arith, zero, suc, ◌^◌, ◌↔◌, ◌⊎◌, inl, inr, nat_le, [], ◌∷◌, subst, length-append, ◌/◌, ◌%◌, Option, ◌*◌, ◌++◌}
pub use Rattle.std.proofs.lemmas.Bool.{eqb-true, eq-eqb, both_ways, and_from, or_left, or_right, or_cases}
pub use Rattle.std.proofs.lemmas.Bool.Decides.{nat_tests}
pub use Rattle.std.proofs.lemmas.List.{drop_more, drop_all}
pub use Rattle.std.specs.List.{flat_map}
pub use Rattle.std.specs.Prelude.{bit_and}
pub use Rattle.bv_terms.specs.Tree.{truth, width_of, Tree}
pub use Rattle.bv_terms.specs.Trees.{AreInRange, IsTerm, Keeps, Makes, Tests, bit_at, term_at, tree_in}
pub use Rattle.bv_terms.specs.declared.term.Term.{Term}
pub use Rattle.bv_terms.specs.declared.term.TermId.{TermId}
pub use Rattle.mem_terms.proofs.Bits.{term-below}
pub use Rattle.mem_terms.proofs.Eaches.{at-any, each-at, each-weaker, map-same, map-length}
pub use Rattle.mem_terms.proofs.GivenTerms.{memory-always, frame-at, frames-alike}
pub use Rattle.mem_terms.proofs.Later.{bit-later, keeps_self, keeps_trans, term-later, block-later, byte-later, memory-later, places-later, block_terms-later, is_term-later, within-later, byte_terms-later, arg-later, sym_bytes-later, sym_block-later, always_each-later, sym_blocks-later}
pub use Rattle.mem_terms.proofs.SymBytes.{keeps_four, keeps_five}
pub use Rattle.mem_terms.specs.Inputs.{IsArg, AreArgs, IsBlockTerms, words_at, IsByteTerms}
pub use Rattle.mem_terms.specs.Memory.{IsSymByte, AreSymBlocks, AreSymBytes, IsAlways, IsSymBlock, SymFrame, frame_of, places_at, byte_of}
unfoldable pub use Rattle.mem_terms.specs.Memory.{byte_at, block_at, memory_at}
pub use Rattle.mem_terms.specs.Values.{IsSymValue, block_name, reading, Each, value_of}
unfoldable pub use Rattle.mem_terms.specs.Values.{first_local, value_at}
pub use Rattle.mem_terms.specs.declared.bytes.SymByte.{SymByte}
pub use Rattle.mem_terms.specs.declared.inputs.ByteTerms.{ByteTerms}
pub use Rattle.points.specs.Codes.{IsPointerAmong, IsCodeOfValue, IsCodeOfArgs, IsChain, AreSizes, IsCodeOfBlocks, IsCode, IsNumberByte, IsPartByte, IsPoisonByte, IsCodeOfByte, IsUnused, IsCodeOfPlaces}
pub use Rattle.points.specs.Refines.{same_pointer, byte_allows, value_allows, block_allows, blocks_allow, returned_allows, is_refined}
unfoldable pub use Rattle.points.specs.Refines.{pairs_pass}
pub use Rattle.points.specs.declared.point.Layout.{Layout}
pub use Rattle.refine_terms.specs.Deciding.{Decides, IsNarrow}
pub use Rattle.refine_terms.specs.Groups.{IsCodeOfPlace}
pub use Rattle.refine_terms.specs.Numbers.{arg_numbers, IsInputOf, IsTapeOf, block_numbers, numbers_at, byte_numbers}

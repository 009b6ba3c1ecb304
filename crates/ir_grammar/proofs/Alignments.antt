-- The alignment that an access has where none is written may also be written.
use Rattle.ir_grammar.proofs.Common.{Bool, true, false, leb, cond, refl, IrType, IsAlignment, type_align, store_size, WrittenAccess, default_align}
use Rattle.ir_words.specs.declared.written.WrittenAccess.TheVariants as access

type-aligned : (type : IrType) → IsAlignment (type_align type)
type-aligned type = go (leb (store_size type) 1) (leb (store_size type) 2) (leb (store_size type) 4)
  where
    go : (one two four : Bool) → IsAlignment (cond one 1 (cond two 2 (cond four 4 8)))
    go true two four = refl
    go false true four = refl
    go false false true = refl
    go false false false = refl

pub default-aligned : (a : WrittenAccess) → IsAlignment (default_align a)
default-aligned (access.Alloca into number type) = type-aligned type.of_type.element
default-aligned (access.Load into type from) = type-aligned type.of_type
default-aligned (access.Store value to) = type-aligned value.of_type.of_type

-- What is answered for a definition that isn't planned.
use Rattle.std.specs.Prelude.{◌≡◌, ℕ}
use Rattle.odb_model.specs.declared.reply.Reply.{Reply}
use Rattle.odb_model.specs.declared.reply.Reply.TheVariants.{Memory}
use Rattle.odb_model.specs.Definitions.{Planned, Refused}
use Rattle.odb_catalog.specs.declared.error.CatalogError.{CatalogError}
use Rattle.odb_catalog.specs.declared.error.CatalogError.TheVariants.{RowFault}

-- the reply is what the definition is refused for; memory may be missing at any
abbrev pub IsRefusedBy : Planned → Reply → Type 0
IsRefusedBy planned Memory = Unit {0}
IsRefusedBy planned reply = planned ≡ Refused reply

-- no file was read, so none failed
abbrev pub IsOfNoFile : CatalogError → Type 0
IsOfNoFile (RowFault file) = ⊥
IsOfNoFile error = Unit {0}

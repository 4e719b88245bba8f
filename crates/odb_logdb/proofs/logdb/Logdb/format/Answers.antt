use Rattle.std.proofs.Common.{◌≡◌, sym, subst, ap, ◌∙◌}
use Rattle.odb_device.specs.World.{file_of}
use Rattle.odb_device.specs.Images.{EachImage}
use Rattle.odb_extent.specs.Standing.{fields_of, IsNew, new_file}
use Rattle.odb_reclog.specs.Standing.{Log, begun}
use Rattle.odb_logdb.specs.declared.fields.LogFields.{LogFields}
use Rattle.odb_logdb.specs.declared.state.ListState.TheVariants.{Known}
use Rattle.odb_logdb.specs.Fields.{LIVE, fields_image, log_fields}
use Rattle.odb_logdb.specs.Standing.{IsLogdb}
use Rattle.odb_logdb.specs.Worlds.{IsNewLog}
use Rattle.odb_logdb.proofs.Makes.{new_holds, new_made, new_is}
use Rattle.odb_logdb.proofs.Stood.{log_with}
use Rattle.odb_logdb.proofs.logdb.Logdb.format.Given.{Over}
use Rattle.odb_logdb.proofs.logdb.Logdb.format.Goals as goal
use Rattle.odb_logdb.proofs.logdb.Logdb.format.Goals.{In_ok-extents}

module _ (g : Over) (c : In_ok-extents g) where
  abbrev f_is : c.new-fields.result ≡ log_fields LIVE c.args.first
  f_is = c.new-fields.ensures

  made : c.in_ok-extents.extents ≡ new_file 1 1024 (fields_image (log_fields LIVE c.args.first))
  made = c.in_ok-extents.ensures.made ∙ ap (λ (x : LogFields). new_file 1 1024 (fields_image x)) f_is

  fields : fields_of c.in_ok-extents.extents ≡ fields_image (log_fields LIVE c.args.first)
  fields = c.in_ok-extents.ensures.limit.1 ∙ ap fields_image f_is

  new : EachImage (IsNew 1024 (fields_image (log_fields LIVE c.args.first))) (file_of 1 (g.S.Outside.world c.new_extents.new.store))
  new = subst (λ (x : LogFields). EachImage (IsNew 1024 (fields_image x)) (file_of 1 (g.S.Outside.world c.new_extents.new.store))) f_is c.in_ok-extents.ensures.holds

pub returns-clause-holds : goal.returns-clause-holds
returns-clause-holds g c =
    let a = (goal.at.returns-clause-holds g c).In_ok-extents in
    new_holds c.args.first c.requires.0 c.requires.1 c.in_ok-extents.extents (made g a) c.in_ok-extents.ensures.limit.0 (fields g a) (g.S.Outside.world c.new_extents.new.store) c.in_ok-extents.ensures.stands (new g a)
    (g.met.S.Store.reads_image c.new_extents.new.store 1) c.content_end.result c.content_end.ensures

pub returns-clause-made : goal.returns-clause-made
returns-clause-made g c =
    let a = (goal.at.returns-clause-made g c).In_ok-extents in
    let w = g.S.Outside.world c.new_extents.new.store in
    subst (λ (x : Log). IsNewLog c.args.first (log_with c.in_ok-extents.extents c.new-fields.result x Known) w) (sym c.begin-log.ensures.log)
    (subst (λ (x : LogFields). IsNewLog c.args.first (log_with c.in_ok-extents.extents x (begun 1 1024 c.content_end.result c.args.first) Known) w) (sym c.new-fields.ensures)
    (new_made c.args.first c.requires.0 c.requires.1 c.in_ok-extents.extents (made g a) c.in_ok-extents.ensures.limit.0 (fields g a) w c.in_ok-extents.ensures.stands (new g a) (g.met.S.Store.reads_image c.new_extents.new.store 1) c.content_end.result
    c.content_end.ensures))

pub invariant_of-result : goal.invariant_of-result
invariant_of-result g c =
    let a = (goal.at.invariant_of-result g c).In_ok-extents in
    subst (λ (x : Log). IsLogdb (log_with c.in_ok-extents.extents c.new-fields.result x Known)) (sym c.begin-log.ensures.log)
    (subst (λ (x : LogFields). IsLogdb (log_with c.in_ok-extents.extents x (begun 1 1024 c.content_end.result c.args.first) Known)) (sym c.new-fields.ensures)
    (new_is c.args.first c.requires.0 c.requires.1 c.in_ok-extents.extents (made g a) c.in_ok-extents.ensures.limit.0 (fields g a) (g.S.Outside.world c.new_extents.new.store) c.in_ok-extents.ensures.stands (new g a)
    (g.met.S.Store.reads_image c.new_extents.new.store 1) c.content_end.result c.content_end.ensures))

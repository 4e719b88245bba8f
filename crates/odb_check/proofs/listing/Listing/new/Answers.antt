use Rattle.odb_check.proofs.Listings.{all_left}
use Rattle.odb_check.proofs.listing.Listing.new.Goals as goal

pub returns : goal.returns
returns c = λ s. all_left s c.args.with_rows c.args.number

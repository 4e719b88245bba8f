use Rattle.odb_bank.proofs.Lasting.{by_marks, for_longer, at_longer, standing_in_order, rows_changed}
use Rattle.odb_bank.proofs.laws.keeps_banks.Goals as goal

pub returns-clause-images : goal.returns-clause-images
returns-clause-images c = by_marks

pub returns-clause-longer : goal.returns-clause-longer
returns-clause-longer c = λ h longer b file on stands. for_longer h longer on b file stands

pub returns-clause-longer_at : goal.returns-clause-longer_at
returns-clause-longer_at c = λ h longer bank mark bytes on at. at_longer h longer on bank mark bytes at

pub returns-clause-in_order : goal.returns-clause-in_order
returns-clause-in_order c = λ h bank mark number bytes small at. standing_in_order h bank mark number bytes small at

pub returns-clause-rows : goal.returns-clause-rows
returns-clause-rows c = λ h b f image key standing at. rows_changed h b f standing image at key

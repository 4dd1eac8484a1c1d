-- what an object costs, and what an instruction hashes
pub mod Heft
pub mod Keys
pub mod Tally
pub mod Memory
-- the bill, and the account of a run
pub mod Bill
pub mod Weighed
pub mod FollowedBill
-- limits, and what an answer says about them
pub mod Tolls
pub mod Loading
pub mod Unkept
pub mod Costly
-- how an excess is printed
pub mod Printed
-- what the bill says about runs
pub mod Laws
pub mod OneEnd
-- what need not be trusted
pub mod Private

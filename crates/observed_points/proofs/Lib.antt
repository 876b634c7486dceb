pub mod ObservedPoints
pub mod PinLists
pub mod PointTables
pub mod LineReads

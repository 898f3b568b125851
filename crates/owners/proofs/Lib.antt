pub mod ClashLaws
pub mod RisingLaws
pub mod RaisedLaws
